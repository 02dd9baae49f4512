-- What remains once numbers are taken out: counted, written, and a graph again.
use mathlib.Core.Path.{◌≡◌, refl, sym, ap, ◌∙◌}
use mathlib.Core.Bool.{true, false}
use mathlib.Core.List.{List, [], ◌∷◌, ◌++◌, map, append-nil}
use mathlib.Core.Logic.{by_cases}
use Prim.Native.Nat.{ℕ, zero, suc, ◌+◌, ◌*◌, ◌-◌, ◌≤◌, ◌<◌}
use native.Mathlib.Nat.{add-zero, zero-add}
use native.Mathlib.Numerals.{add-one}
use native.Mathlib.Decide.{dec_lt}
use native.Mathlib.Omega.{arith}
use borrow.Author.Tests.{eqb-true, eqb-false}
use lib.Dec.{eqb}
use lib.ListN.{length, get_or, set, take, length-map, length-set, get_or-map}
use lib.Seq.{take-suc, take-suc-set, take-length, length-take-le, get_or-set_same, get_or-set_other, ext_get_or}
use Rattle.laws.specs.Every.{Every}
use Rattle.laws.specs.Sum.{sum, hit}
use Rattle.laws.specs.Span.{span}
use Rattle.laws.proofs.Every.{every_at, at_every}
use Rattle.laws.proofs.Span.{span_one}
use Rattle.laws.proofs.Passing.{span_next, span_so_far, span_agree, span_plus}
use Rattle.graph.specs.Chain.{set?}
use Rattle.graph.specs.Graph.{Graph, graph, objects, references, first, after}
use Rattle.graph.specs.Formed.{Formed}
use Rattle.graph.specs.Leaving.{unset?}
use Rattle.graph.specs.Limits.{most_references}
use Rattle.graph.proofs.OverMarked.{offsets_rise}
use Rattle.slices.specs.Bits.{bit, word_bits}
use Rattle.slices.proofs.BitWords.{bit_low}
use Rattle.changes.specs.Stores.{keep_if, chosen, stays, staying, distinct, removed}
use Rattle.changes.specs.Taking.{Gathered, Tells, TargetsTo, PartReady, PartKept, Climbs, KeptTo, ObjectsReady, ObjectsKept}

-- ---- bits

module _ (ws : List ℕ) (i : ℕ) where
  absent_yes : eqb (bit ws i) 1 ≡ false → unset? (bit ws i) ≡ 1
  absent_yes q = missing (bit ws i) (bit_low ws i) (eqb-false _ _ q)
    where
      missing : (x : ℕ) → x ≤ 1 → (x ≡ 1 → ⊥) → unset? x ≡ 1
      missing zero h n = refl
      missing (suc x) h n = absurd (n (omega (arith, h)))

  absent_no : eqb (bit ws i) 1 ≡ true → unset? (bit ws i) ≡ 0
  absent_no q = ap unset? (eqb-true (bit ws i) 1 q)

-- ---- `keep_part`

chosen_snoc : (f : ℕ → ℕ) (b : ℕ) (l : List ℕ) (t : ℕ) → chosen f b (l ++ t ∷ []) ≡ chosen f b l ++ keep_if (f (b + length l)) t []
unfolding chosen
chosen_snoc f b [] t = rw (add-zero b)
chosen_snoc f b (x ∷ l) t =
    let e : suc b + length l ≡ b + suc (length l) = omega arith in
    rw (← e, chosen_snoc f (suc b) l t) (pushed (f b) x (chosen f (suc b) l) (keep_if (f (suc b + length l)) t []))
  where
    pushed : (k x : ℕ) (s r : List ℕ) → keep_if k x (s ++ r) ≡ keep_if k x s ++ r
    pushed zero x s r = refl
    pushed (suc k) x s r = refl

pub targets_none : (f : ℕ → ℕ) (ts l : List ℕ) → length l ≡ span f 0 (length ts) → TargetsTo f ts l 0 0
unfolding span chosen
targets_none f ts l h = record { within = omega arith; long = h; count_is = refl; low = omega arith; done = refl }

module _ {f : ℕ → ℕ} {ts l : List ℕ} {at e : ℕ} (a : TargetsTo f ts l at e) (h : e < length ts) where
  one_more : chosen f 0 (take (e + 1) ts) ≡ chosen f 0 (take e ts) ++ keep_if (f e) (get_or ts e 0) []
  one_more =
      let p : length (take e ts) ≡ e = length-take-le e ts (omega (arith, h)) in
      rw (add-one e, take-suc ts e 0 h, chosen_snoc f 0 (take e ts) (get_or ts e 0), p, zero-add e)

  targets_room : f e ≡ 1 → at < length l
  targets_room q =
      omega (arith, a.count_is, a.long, q, span_next f e, span_so_far f 0 (e + 1) (length ts) (omega (arith, h)))

  targets_more : f e ≡ 1 → TargetsTo f ts (set l at (get_or ts e 0)) (at + 1) (e + 1)
  targets_more q =
      record {
        within = omega (arith, h);
        long = length-set l at (get_or ts e 0) ∙ a.long;
        count_is = omega (arith, a.count_is, q, span_next f e);
        low = omega (arith, a.low);
        done = rw (one_more, q, add-one at, take-suc-set l at (get_or ts e 0) (targets_room q), a.done);
      }

  targets_over : f e ≡ 0 → TargetsTo f ts l at (e + 1)
  targets_over q =
      record {
        within = omega (arith, h);
        long = a.long;
        count_is = omega (arith, a.count_is, q, span_next f e);
        low = omega (arith, a.low);
        done = rw (one_more, q, a.done) (sym (append-nil (chosen f 0 (take e ts))));
      }

-- the references of the part below e are looked at
pub record PartTo (ts ws l₀ : List ℕ) (base from to at₀ : ℕ) (l : List ℕ) (at e : ℕ) : Type 0 where
  pub low : from ≤ e
  pub high : e ≤ to
  pub long : length l ≡ length l₀
  pub kept : (x : PartReady ts ws l₀ base from to at₀) → TargetsTo x.stays ts l at e

module _ {ts ws l₀ : List ℕ} {base from to at₀ : ℕ} {l : List ℕ} {at e : ℕ} (a : PartTo ts ws l₀ base from to at₀ l at e) where
  module _ (h : e < to) where
    module _ (q : eqb (bit ws (e - base)) 1 ≡ false) where
      stays_here : (x : PartReady ts ws l₀ base from to at₀) → x.stays e ≡ 1
      stays_here x = x.tells.agrees e (omega (arith, a.low, x.low)) h ∙ absent_yes ws (e - base) q

      pub part_room : PartReady ts ws l₀ base from to at₀ → at < length l
      part_room x = targets_room (a.kept x) (omega (arith, x.tells.inside)) (stays_here x)

      pub part_more : PartTo ts ws l₀ base from to at₀ (set l at (get_or ts e 0)) (at + 1) (e + 1)
      part_more =
          record {
            low = omega (arith, a.low);
            high = omega arith;
            long = length-set l at (get_or ts e 0) ∙ a.long;
            kept = λ x. targets_more (a.kept x) (omega (arith, x.tells.inside)) (stays_here x);
          }

    pub part_over : eqb (bit ws (e - base)) 1 ≡ true → PartTo ts ws l₀ base from to at₀ l at (e + 1)
    part_over q =
        record {
          low = omega (arith, a.low);
          high = omega arith;
          long = a.long;
          kept = λ x.
              targets_over (a.kept x) (omega (arith, x.tells.inside))
              (x.tells.agrees e (omega (arith, a.low, x.low)) h ∙ absent_no ws (e - base) q);
        }

-- ---- `keep_objects`

-- a smaller window
tells_less : {f : ℕ → ℕ} {ts ws : List ℕ} {base end to : ℕ} → Tells f ts ws base end → to ≤ end → Tells f ts ws base to
tells_less t h =
    record {
      inside = omega (arith, t.inside);
      few = t.few;
      covered = omega (arith, t.covered);
      agrees = λ e l u. t.agrees e l (omega arith);
    }

-- the offsets of the objects below v are written, and the targets below e
pub record ObjectsTo (os ts ws bounds₀ places₀ : List ℕ) (base v₀ at₀ end : ℕ) (bounds places : List ℕ) (e v at : ℕ) : Type 0 where
  pub onward : base ≤ e
  pub high : e ≤ end
  pub forth : v₀ ≤ v
  pub bounds_long : length bounds ≡ length bounds₀
  pub places_long : length places ≡ length places₀
  pub kept : (x : ObjectsReady os ts ws bounds₀ places₀ base v₀ at₀ end) → KeptTo x.stays os ts bounds places e v at

module _ {os ts ws bounds₀ places₀ : List ℕ} {base v₀ at₀ end : ℕ} {bounds places : List ℕ} {e v at : ℕ}
    (a : ObjectsTo os ts ws bounds₀ places₀ base v₀ at₀ end bounds places e v at) where
  module _ (h : v < length os) where
    -- a part that begins at e
    pub part_ready : (x : ObjectsReady os ts ws bounds₀ places₀ base v₀ at₀ end) → {to : ℕ} → e ≤ to → to ≤ end → PartReady ts ws places base e to at
    part_ready x l u =
        record { stays = x.stays; tells = tells_less x.tells u; low = a.onward; order = l; kept = (a.kept x).targets }

    pub next_order : ObjectsReady os ts ws bounds₀ places₀ base v₀ at₀ end → e ≤ get_or os v 0
    next_order x = (a.kept x).next h

    module _ {at' : ℕ} {places' : List ℕ} where
      -- the window ends before the object's references begin
      pub objects_stop : length places' ≡ length places → end < get_or os v 0 → PartKept ts ws places base e end at at' places'
          → ObjectsKept os ts ws bounds₀ places₀ base v₀ at₀ end end v at' bounds places'
      unfolding part_ready
      objects_stop l u p =
          record {
            kept = λ x.
                let k = a.kept x in
                record {
                  targets = p (part_ready x a.high (omega arith));
                  long = k.long;
                  within = k.within;
                  offsets = k.offsets;
                  next = λ q. omega arith;
                  last = λ w s. omega (arith, k.last w s, a.high);
                };
            onward = omega (arith, a.onward, a.high);
            forth = a.forth;
            reached = λ q. (refl, u);
          }

      module _ (u : get_or os v 0 ≤ end) (p : PartKept ts ws places base e (get_or os v 0) at at' places') where
        pub place_low : ObjectsReady os ts ws bounds₀ places₀ base v₀ at₀ end → at' ≤ most_references
        place_low x = omega (arith, (p (part_ready x (next_order x) u)).low, x.tells.inside, x.tells.few)

        pub objects_next : ObjectsReady os ts ws bounds₀ places₀ base v₀ at₀ end → length places' ≡ length places
            → ObjectsTo os ts ws bounds₀ places₀ base v₀ at₀ end (set bounds v at') places' (get_or os v 0) (v + 1) at'
        unfolding part_ready
        objects_next y l =
            record {
              onward = omega (arith, a.onward, next_order y);
              high = u;
              forth = omega (arith, a.forth);
              bounds_long = length-set bounds v at' ∙ a.bounds_long;
              places_long = l ∙ a.places_long;
              kept = λ x.
                  let k = a.kept x in
                  let t = p (part_ready x (next_order x) u) in
                  record {
                    targets = t;
                    long = length-set bounds v at' ∙ k.long;
                    within = omega arith;
                    offsets = λ w q.
                        by_cases (dec_lt w v)
                        (λ (s : w < v). get_or-set_other bounds v w at' 0 (λ z. omega arith) ∙ k.offsets w s)
                        (λ (s : ¬ (w < v)).
                        let here : w ≡ v = omega arith in
                        rw here (get_or-set_same bounds v at' 0 (omega (arith, k.long)) ∙ t.count_is));
                    next = λ q. rw (add-one v) (x.climbs.up v (rw (add-one v) at q));
                    last = λ w s. let here : w ≡ v = omega arith in rw here (omega arith);
                  };
            }

-- ---- `keep`

unset_set : (x : ℕ) → unset? (set? x) ≡ unset? x
unset_set zero = refl
unset_set (suc x) = refl

both_ways : (x : ℕ) → set? x + unset? x ≡ 1
both_ways zero = refl
both_ways (suc x) = refl

-- those named and those that stay are all
pub distinct_staying : (ns : List ℕ) (m : ℕ) → distinct ns m + staying ns m ≡ m
distinct_staying ns m =
    sym (span_plus (λ (e : ℕ). set? (sum (hit e) ns)) (stays ns) 0 m)
    ∙ span_agree (λ (e : ℕ). set? (sum (hit e) ns) + stays ns e) (λ (e : ℕ). 1) m (λ e h. both_ways (sum (hit e) ns))
    ∙ span_one 0 m

-- a window in which the numbers are gathered
gathered_tells : {ns ts ws : List ℕ} {base end r : ℕ} → Gathered ns base end r ws → end ≤ length ts → length ts ≤ most_references
    → end ≤ base + word_bits * length ws → Tells (stays ns) ts ws base end
gathered_tells {ns} g i f c =
    record {
      inside = i;
      few = f;
      covered = c;
      agrees = λ e l u. sym (ap unset? (g.bits e l u) ∙ unset_set (sum (hit e) ns));
    }

module _ (ns : List ℕ) (G : Graph) (F : Formed G) where
  -- the offsets rise to m
  pub offsets_climb : Climbs G.offsets (references G)
  offsets_climb =
      record {
        up = λ v h. F.rises v (omega (arith, h));
        top = λ v h.
            let q : v + (objects G - v) ≡ objects G = omega (arith, h) in
            omega (arith, F.to_all, rw q at (offsets_rise G F v (objects G - v) (omega (arith, h))));
      }

  pub kept_none : {bounds places : List ℕ} → length bounds ≡ length G.offsets → length places ≡ staying ns (references G)
      → KeptTo (stays ns) G.offsets G.targets bounds places 0 0 0
  kept_none l p =
      record {
        targets = targets_none (stays ns) G.targets _ p;
        long = l;
        within = omega arith;
        offsets = λ u q. absurd (omega arith);
        next = λ q. omega arith;
        last = λ u q. absurd (omega arith);
      }

  module _ {bounds places : List ℕ} {e v at : ℕ} (k : KeptTo (stays ns) G.offsets G.targets bounds places e v at) where
    pub window_ready : {ws : List ℕ} {end r : ℕ} → Gathered ns e end r ws → e ≤ end → end ≤ references G → references G ≤ most_references
        → end ≤ e + word_bits * length ws → ObjectsReady G.offsets G.targets ws bounds places e v at end
    window_ready g o i f c = record { stays = stays ns; tells = gathered_tells g i f c; order = o; climbs = offsets_climb; kept = k }

    pub window_kept : {ws : List ℕ} {end r : ℕ} (g : Gathered ns e end r ws) (o : e ≤ end) (i : end ≤ references G) (f : references G ≤ most_references)
        (c : end ≤ e + word_bits * length ws) {e' v' at' : ℕ} {bounds' places' : List ℕ}
        → ObjectsKept G.offsets G.targets ws bounds places e v at end e' v' at' bounds' places'
        → KeptTo (stays ns) G.offsets G.targets bounds' places' e' v' at'
    unfolding window_ready
    window_kept g o i f c x = x.kept (window_ready g o i f c)

    -- the last object's references end with the targets
    all_passed : length G.offsets ≤ v → e ≡ references G
    all_passed h =
        let w : suc (objects G) ≡ v = omega (arith, k.within, F.some) in
        omega (arith, k.last (objects G) w, F.to_all, k.targets.within)

    pub bounds_all : length G.offsets ≤ v → bounds ≡ map (staying ns) G.offsets
    unfolding span
    bounds_all h =
        ext_get_or 0 bounds (map (staying ns) G.offsets) (k.long ∙ sym (length-map G.offsets (staying ns)))
        (λ u q. k.offsets u (omega (arith, k.long)) ∙ sym (get_or-map (staying ns) G.offsets u 0))

    pub places_all : length G.offsets ≤ v → places ≡ chosen (stays ns) 0 G.targets
    places_all h =
        let t = k.targets in
        let all = all_passed h in
        let full : at ≡ length places = t.count_is ∙ ap (staying ns) all ∙ sym t.long in
        sym (ap (λ (j : ℕ). take j places) full ∙ take-length places) ∙ t.done
        ∙ ap (λ (j : ℕ). chosen (stays ns) 0 (take j G.targets)) all ∙ ap (chosen (stays ns) 0) (take-length G.targets)

  pub removed_is : {bounds places : List ℕ} → bounds ≡ map (staying ns) G.offsets → places ≡ chosen (stays ns) 0 G.targets
      → graph bounds places ≡ removed G ns
  unfolding removed
  removed_is b p = rw (b, p)

-- ---- what remains is a graph

module _ (ns : List ℕ) where
  chosen_long : (b : ℕ) (l : List ℕ) → length (chosen (stays ns) b l) ≡ span (stays ns) b (length l)
  unfolding chosen span
  chosen_long b [] = refl
  chosen_long b (x ∷ l) = kept_long (sum (hit b) ns) x (chosen (stays ns) (suc b) l) ∙ omega (arith, chosen_long (suc b) l)
    where
      kept_long : (k x : ℕ) (r : List ℕ) → length (keep_if (unset? k) x r) ≡ unset? k + length r
      kept_long zero x r = omega arith
      kept_long (suc k) x r = omega arith

  chosen_every : (P : ℕ → Type 0) (b : ℕ) (l : List ℕ) → Every P l → Every P (chosen (stays ns) b l)
  unfolding chosen
  chosen_every P b [] h = tt
  chosen_every P b (x ∷ l) h = kept_every (stays ns b) x (chosen (stays ns) (suc b) l) h.0 (chosen_every P (suc b) l h.1)
    where
      kept_every : (k x : ℕ) (r : List ℕ) → P x → Every P r → Every P (keep_if k x r)
      kept_every zero x r p q = q
      kept_every (suc k) x r p q = (p, q)

  module _ (G : Graph) (F : Formed G) where
    pub removed_objects : objects (removed G ns) ≡ objects G
    unfolding removed
    removed_objects = rw (length-map G.offsets (staying ns))

    removed_first : (v : ℕ) → first (removed G ns) v ≡ staying ns (first G v)
    unfolding removed span
    removed_first v = get_or-map (staying ns) G.offsets v 0

    pub removed_formed : Formed (removed G ns)
    unfolding removed span
    removed_formed =
        let n = removed_objects in
        record {
          some = rw (length-map G.offsets (staying ns)) F.some;
          from_zero = removed_first 0 ∙ ap (staying ns) F.from_zero;
          rises = λ v h.
              let w : v < objects G = omega (arith, h, n) in
              rw (removed_first v, removed_first (suc v)) (span_so_far (stays ns) 0 (first G v) (after G v) (F.rises v w));
          to_all = rw n (removed_first (objects G) ∙ ap (staying ns) F.to_all ∙ sym (chosen_long 0 G.targets));
          inside = λ e h.
              rw n
              (every_at (λ (t : ℕ). t < objects G) (chosen (stays ns) 0 G.targets) e 0
              (chosen_every (λ (t : ℕ). t < objects G) 0 G.targets (at_every (λ (t : ℕ). t < objects G) G.targets 0 F.inside)) h);
        }
