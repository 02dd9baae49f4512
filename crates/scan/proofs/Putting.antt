-- The mentions of a text, and of texts, are written to both lists.
use Rattle.std.proofs.Common.{◌≡◌, ℕ, ◌+◌, ◌≤◌, ◌<◌, true, List, [], ◌∷◌, ◌++◌, length, get_or, set, take, drop, ◌-◌, replicate, refl, sym, ap, ◌∙◌, append_assoc, append-nil, add-one, arith, length-append}
use lib.ListN.{replicate-append-replicate}
use lib.Seq.{set_split, drop-length}
use Rattle.slices.specs.Put.{Put}
use Rattle.slices.proofs.Written.{same_long, then, as_text}
use Rattle.names.specs.Names.{Names}
use Rattle.names.specs.Mentions.{mentions, texts_from, sources, targets}
use Rattle.names.specs.Call.{Texts, from, to, ends_right}
use Rattle.names.proofs.Texts.{ends_at, text_at, texts_at, texts_end, targets_cons, targets_none, sources_at, sources_none}
use Rattle.scan.specs.Passing.{Puttable, PutAll}

-- one word
put_one : (l : List ℕ) (i x : ℕ) → i < length l → Put l i (x ∷ []) (set l i x) (i + 1)
put_one l i x h = record { ends = refl; fits = omega arith; holds = rw add-one (set_split l i x h) }

-- one word more of the same
once_more : (n o : ℕ) → replicate {A = ℕ} n o ++ (o ∷ []) ≡ replicate (n + 1) o
once_more n o = replicate-append-replicate n 1 o

-- ---- one text: what is written, and the mentions that are left, are all

pub record PuttingText (owner top : ℕ) (all fs ts fs' ts' done left : List ℕ) (next : ℕ) : Type 0 where
  pub joined : done ++ left ≡ all
  pub sources : Put fs top (replicate (length done) owner) fs' next
  pub targets : Put ts top done ts' next

module _ {owner top : ℕ} {all fs ts fs' ts' done left later : List ℕ} {next o : ℕ} (c : PuttingText owner top all fs ts fs' ts' done left next)
    (e : left ≡ o ∷ later) (a : top + length all ≤ length fs) (b : length ts ≡ length fs) where
  -- there is room for one more
  pub text_room : (next < length fs') × (next < length ts')
  text_room =
      let l = ap length c.joined in
      let m = length-append done left in
      let n = ap length e in
      let t = c.targets.ends in
      (omega (arith, same_long c.sources), omega (arith, same_long c.targets))

  pub text_on : PuttingText owner top all fs ts (set fs' next owner) (set ts' next o) (done ++ (o ∷ [])) later (next + 1)
  text_on =
      let q = text_room in
      let k : length done + 1 ≡ length (done ++ (o ∷ [])) = sym (length-append done (o ∷ [])) in
      record {
        joined = append_assoc done (o ∷ []) later ∙ (rw e at c.joined);
        sources =
            as_text (once_more (length done) owner ∙ ap (λ (n : ℕ). replicate n owner) k)
            (then c.sources (put_one fs' next owner q.0));
        targets = then c.targets (put_one ts' next o q.1);
      }

-- ---- all texts

pub record PuttingTexts (N : Names) (T : Texts) (fs ts fs' ts' : List ℕ) (top start i : ℕ) : Type 0 where
  pub right : ends_right start (drop i T.ends) (length T.bytes) ≡ true
  pub fdone : List ℕ
  pub tdone : List ℕ
  pub fjoined : fdone ++ sources N (texts_from start (drop i T.ends) T.bytes) (drop i T.owners) ≡ from N T
  pub tjoined : tdone ++ targets N (texts_from start (drop i T.ends) T.bytes) ≡ to N T
  pub fput : Put fs 0 fdone fs' top
  pub tput : Put ts 0 tdone ts' top

module _ {N : Names} {T : Texts} {fs ts fs' ts' : List ℕ} {top start i : ℕ} (c : PuttingTexts N T fs ts fs' ts' top start i) where
  module _ (p : Puttable N T fs ts) (h : i < length T.ends) where
    abbrev text : List ℕ
    text = text_at T.bytes T.ends start i

    abbrev later : List (List ℕ)
    later = texts_from (get_or T.ends i 0) (drop (i + 1) T.ends) T.bytes

    to_next : (c.tdone ++ mentions N text) ++ targets N later ≡ to N T
    to_next =
        append_assoc c.tdone (mentions N text) (targets N later)
        ∙ ap (λ (l : List ℕ). c.tdone ++ l)
        (sym (ap (λ (l : List (List ℕ)). targets N l) (texts_at T.bytes T.ends start i h) ∙ targets_cons N text later))
        ∙ c.tjoined

    -- its mentions
    pub text_is : {e : ℕ} {all made : List ℕ} → e ≡ get_or T.ends i 0 → made ≡ mentions N (take (e - start) (drop start T.bytes)) → all ≡ made
        → all ≡ mentions N text
    text_is e m a = a ∙ m ∙ rw e

    -- the lists have room for them
    pub texts_room : (top + length (mentions N text) ≤ length fs') × (length ts' ≡ length fs')
    texts_room =
        let a = ap length to_next in
        let b = length-append (c.tdone ++ mentions N text) (targets N later) in
        let d = length-append c.tdone (mentions N text) in
        let e = c.tput.ends in
        (omega (arith, same_long c.fput, p.room), omega (arith, same_long c.fput, same_long c.tput, p.room, p.alike))

    pub texts_next : {owner : ℕ} {all fs'' ts'' done left : List ℕ} {r : ℕ} → PuttingText owner top all fs' ts' fs'' ts'' done left r
        → owner ≡ get_or T.owners i 0 → all ≡ mentions N text → left ≡ [] → PuttingTexts N T fs ts fs'' ts'' r (get_or T.ends i 0) (i + 1)
    texts_next {owner} {all} {done = done} x o m n =
        let owned : i < length T.owners = omega (arith, p.owned) in
        let spread = replicate (length (mentions N text)) (get_or T.owners i 0) in
        let whole : done ≡ mentions N text = sym (append-nil done) ∙ (rw n at x.joined) ∙ m in
        record {
          right = (ends_at T.ends start (length T.bytes) i h c.right).1;
          fdone = c.fdone ++ spread;
          tdone = c.tdone ++ mentions N text;
          fjoined =
              append_assoc c.fdone spread (sources N later (drop (i + 1) T.owners))
              ∙ ap (λ (m : List ℕ). c.fdone ++ m)
              (sym (ap (λ (m : List (List ℕ)). sources N m (drop i T.owners)) (texts_at T.bytes T.ends start i h)
              ∙ sources_at N text later T.owners i owned))
              ∙ c.fjoined;
          tjoined = to_next;
          fput = then c.fput (as_text (rw (whole, o)) x.sources);
          tput = then c.tput (as_text whole x.targets);
        }

  pub texts_put : length fs ≡ length (to N T) → length ts ≡ length (to N T) → length T.ends ≤ i → PutAll N T fs' ts'
  texts_put kf kt h =
      let e = texts_end T.bytes T.ends start i h in
      let f : c.fdone ≡ from N T =
      sym (append-nil c.fdone)
      ∙ ap (λ (l : List ℕ). c.fdone ++ l)
      (sym (ap (λ (m : List (List ℕ)). sources N m (drop i T.owners)) e ∙ sources_none N (drop i T.owners)))
      ∙ c.fjoined
      in
      let t : c.tdone ≡ to N T =
      sym (append-nil c.tdone)
      ∙ ap (λ (l : List ℕ). c.tdone ++ l) (sym (ap (λ (m : List (List ℕ)). targets N m) e ∙ targets_none N))
      ∙ c.tjoined
      in
      let a = c.fput.ends in
      let b = c.tput.ends in
      let k = ap length t in
      record { sources = whole c.fput (omega arith) ∙ f; targets = whole c.tput (omega arith) ∙ t }
    where
      -- a list that is written whole is what was written
      whole : {before text after : List ℕ} {end : ℕ} → Put before 0 text after end → end ≡ length before → after ≡ text
      whole {before} {text} p e = p.holds ∙ rw (e, drop-length before) (append-nil text)
