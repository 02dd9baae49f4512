-- A hand-over in the work memory: the first k references end in the run being followed, or in a pair of the stretch.
use mathlib.Core.Path.{◌≡◌, refl, sym, ap, ◌∙◌, subst}
use mathlib.Core.Logic.{◌≢◌}
use mathlib.Core.List.{List, ◌∷◌, ◌++◌}
use Prim.Native.Nat.{ℕ, suc, ◌+◌, ◌-◌, ◌*◌, ◌≤◌, ◌<◌, ◌^◌}
use native.Mathlib.Omega.{arith}
use borrow.Author.Tests.{lt-ltb}
use lib.ListN.{length, get_or, set, take, drop, length-set}
use lib.Seq.{paste, paste-zero}
use Rattle.laws.specs.Sum.{sum}
use Rattle.machine.specs.Run.{Run, run, carried, keep, rest}
use Rattle.machine.specs.declared.frontier.Held.{Held}
use Rattle.machine.specs.Split.{held, last_size}
use Rattle.theorems.proofs.Split.{keep_first, held_tells}
use Rattle.worker.specs.declared.stretch.Top.{Top}
use Rattle.worker.specs.Stretch.{Holds, top_with, Told, below, Sharing, InFront, Split, Cuttable, CutFound, Cleft, KeptAbove}
use Rattle.worker.proofs.Pairs.{holds_none, holds_same}
use Rattle.worker.proofs.Parting.{Topped, topped, told_on, told_used, told_one, front as top_of, total, Lowest, lowest_first, lowest_end, back, back_room, told_back, found_back, kept_back}
use Rattle.worker.proofs.Cutting.{split_low, split_high, split_first, split_end, split_below}
use Rattle.step.specs.Held.{stretch_at}
use Rattle.poll.specs.Dividing.{Dividing, Cutting, InBack, Divided, HeldIn}
use Rattle.step.proofs.Parts.{length_stretch, get_or_stretch, length_back, back_here, back_other, length_copied, copied_here, copied_other}

-- a stretch as it is lent
abbrev lent : ℕ → ℕ → List ℕ → List ℕ
lent L b work = take (b * L + L - b * L) (drop (b * L) work)

-- it is that stretch
pub lent_is : (L b : ℕ) (work : List ℕ) → lent L b work ≡ stretch_at L b work
lent_is L b work = let n : b * L + L - b * L ≡ L = omega arith in rw n

-- it holds the same runs
abbrev pub sharing_lent : (L b : ℕ) (work : List ℕ) {t : Top} {k others : ℕ} → Sharing (stretch_at L b work) t k others → Sharing (lent L b work) t k others
sharing_lent L b work y = record { runs = y.runs; told = rw (lent_is L b work) y.told; some = y.some; number = y.number }

-- how many of k references lie beyond the first run
abbrev beyond : Top → ℕ → ℕ
beyond t k = k - (t.end - t.first)

-- the cut is at a pair of the stretch, of whose words each fits
pub record Reached (L : ℕ) (work : List ℕ) (b a : ℕ) (t : Top) (k place left : ℕ) : Type 0 where
  pub cutting : Cutting L work b a t k place left
  pub small : (i : ℕ) → get_or work i 0 < 2 ^ 32

-- the pair that ends at `place` is in worker b's stretch, and `left` references into its run are within it
pub record Placed (L : ℕ) (work : List ℕ) (b place left : ℕ) : Type 0 where
  pub low : 2 ≤ place
  pub high : place ≤ L
  pub room : b * L + place ≤ length work
  pub fits : get_or work (b * L + (place - 2)) 0 + left < 2 ^ 32

-- ---- the first k references and the others, in words, by whether the first run holds them

module _ {rs : List Run} {t : Top} {s : List ℕ} (p : Topped rs t s) (k : ℕ) where
  -- the first run holds them: its front is kept
  front : 1 ≤ k → k ≤ suc p.more → (s' : List ℕ) → Told (keep k rs) (top_with 0 t.first (t.first + k)) s'
  front l h s' =
      subst (λ (l : List Run). Told l (top_with 0 t.first (t.first + k)) s') (sym (ap (λ (l : List Run). keep k l) p.whole ∙ keep_first k t.first p.more p.below l h))
      (told_on (holds_none s') t.first (k - 1) (t.first + k) (omega arith))

  -- it is kept with what stands above the cut in the others
  over : k < carried rs → p.more < k → beyond t k < carried p.below
  unfolding carried sum
  over l h =
      let e : carried rs ≡ suc p.more + carried p.below = ap (λ (l : List Run). carried l) p.whole in
      omega (arith, p.end_is, e)

  above : p.more < k → {s' : List ℕ} {used : ℕ} → Holds s' used (keep (beyond t k) p.below) → Told (keep k rs) (top_with used t.first t.end) s'
  unfolding keep
  above h {s'} {used} q =
      let n : k - suc p.more ≡ beyond t k = omega (arith, p.end_is) in
      let e : keep k rs ≡ run t.first p.more ∷ keep (beyond t k) p.below =
      ap (λ (l : List Run). keep k l) p.whole ∙ rw (lt-ltb p.more k h, n) in
      subst (λ (l : List Run). Told l (top_with used t.first t.end) s') (sym e) (told_on q t.first p.more t.end p.end_is)

  under : p.more < k → {place left : ℕ} → (i : Split p.below (beyond t k) place left) → {s' : List ℕ} → Holds s' (place - 2) i.below
      → Told (rest k rs) (top_with (place - 2) (get_or s (place - 2) 0 + left) (get_or s (place - 2 + 1) 0)) s'
  unfolding rest
  under h {place} {left} i {s'} q =
      let n : k - suc p.more ≡ beyond t k = omega (arith, p.end_is) in
      let e : rest k rs ≡ rest (beyond t k) p.below =
      ap (λ (l : List Run). rest k l) p.whole ∙ rw (lt-ltb p.more k h, n) in
      subst (λ (l : List Run). Told l (top_with (place - 2) (get_or s (place - 2) 0 + left) (get_or s (place - 2 + 1) 0)) s') (sym (e ∙ i.back))
      (rw (split_first p.holds i) (told_on q (i.first + left) (i.more - left) (get_or s (place - 2 + 1) 0) (omega (arith, split_end p.holds i, i.short))))

-- ---- what is known where a hand-over begins

module _ {L : ℕ} {work : List ℕ} {b a : ℕ} {t : Top} {k : ℕ} where
  taken : (x : Dividing L work b a t k) → Topped x.runs t (stretch_at L b work)
  taken x = topped x.runs t (stretch_at L b work) x.told (omega (arith, x.enough))

  module _ (x : Dividing L work b a t k) where
    pub top_order : t.first ≤ t.end
    top_order = omega (arith, (taken x).end_is)

    pub used_room : t.used ≤ L
    used_room = omega (arith, (taken x).holds.room, length_stretch L b work x.giver_room)

    -- words of one stretch may be copied to the other
    pub copy_room : (count : ℕ) → count ≤ L → (b * L + count ≤ length work) × (a * L + count ≤ length work)
    copy_room count h = (omega (arith, x.giver_room), omega (arith, x.asker_room))

    -- the asker's stretch after so many words are copied to it, and the giver's
    module _ (count : ℕ) (few : count ≤ L) where
      abbrev copy : List ℕ
      copy = paste work (a * L) (drop (b * L) work) count

      copy_long : length copy ≡ length work
      copy_long = length_copied L b a x.other work count few x.giver_room x.asker_room

      copy_other : (i : ℕ) → i ≢ a → stretch_at L i copy ≡ stretch_at L i work
      copy_other = copied_other L b a x.other work count few x.giver_room x.asker_room

      copy_holds : {rs : List Run} → Holds (stretch_at L b work) count rs → Holds (stretch_at L a copy) count rs
      copy_holds h =
          holds_same h (stretch_at L a copy) (copied_here L b a x.other work count few x.giver_room x.asker_room)
          (omega (arith, length_stretch L a copy (omega (arith, copy_long, x.asker_room))))

  -- the runs are those that are shared out, so the same part holds the last reference kept
  pub held_same : (x : Dividing L work b a t k) {others : ℕ} (y : Sharing (stretch_at L b work) t k others) {h r : Held}
      → held k y.runs ≡ h → r ≡ h → HeldIn k x.runs r
  held_same x y q e =
      let one : y.runs ≡ x.runs =
      told_one (stretch_at L b work) t y.runs x.runs y.told x.told (omega (arith, y.some, y.number)) (omega (arith, x.enough)) in
      let is = e ∙ sym q ∙ ap (λ (rs : List Run). held k rs) one in
      record { is = is; tells = rw is (held_tells k x.runs x.some (omega (arith, x.enough))) }

  -- ---- the front holds the last reference kept: the asker gets what is left behind it

  abbrev pub in_front : Dividing L work b a t k → k ≤ t.end - t.first → InFront (lent L b work) t k
  in_front x short = record { runs = x.runs; told = rw (lent_is L b work) x.told; enough = x.enough; short = short }

  module _ (x : Dividing L work b a t k) (short : k ≤ t.end - t.first) (gave : Top)
      (learnt : (y : InFront (lent L b work) t k) → Told (rest k y.runs) gave (lent L b work)) where
    left_behind : (y : Dividing L work b a t k) → Told (rest k y.runs) gave (stretch_at L b work)
    left_behind y = rw (lent_is L b work) at (learnt (in_front y short))

    pub few_behind : gave.used ≤ L
    few_behind =
        omega (
          arith,
          told_used (rest k x.runs) (left_behind x),
          (left_behind x).holds.room,
          length_stretch L b work x.giver_room,
        )

    -- the same words in the asker's stretch
    handed : (y : Dividing L work b a t k) → Told (rest k y.runs) gave (stretch_at L a (copy x gave.used few_behind))
    handed y =
        let h = left_behind y in
        let n = told_used (rest k y.runs) h in
        let rs = below (rest k y.runs) in
        let w = stretch_at L a (copy x gave.used few_behind) in
        let giver = subst (λ (i : ℕ). Holds (stretch_at L b work) i rs) (sym n) h.holds in
        record { top = h.top; holds = subst (λ (i : ℕ). Holds w i rs) n (copy_holds x gave.used few_behind giver) }

    pub divided_front : (work' : List ℕ) → work' ≡ paste work (a * L) (drop (b * L) work) (b * L + gave.used - b * L)
        → Divided L work b a t k work' (top_with 0 t.first (t.first + k)) gave
    divided_front work' is =
        let n : b * L + gave.used - b * L ≡ gave.used = omega arith in
        subst (λ (w : List ℕ). Divided L work b a t k w (top_with 0 t.first (t.first + k)) gave)
        (sym (is ∙ ap (λ (i : ℕ). paste work (a * L) (drop (b * L) work) i) n))
        (record {
          long = copy_long x gave.used few_behind;
          giver = λ y. front (taken y) k y.some (omega (arith, (taken y).end_is)) _;
          receiver = handed;
          others = λ i h. copy_other x gave.used few_behind i;
        })

  -- ---- a pair of the stretch is cut: the giver keeps what stands above it, the asker gets what stands below it

  pub cuttable : Dividing L work b a t k → t.end - t.first ≤ k → Cuttable (lent L b work) t.used (beyond t k)
  cuttable x long =
      let p = taken x in
      rw (lent_is L b work) record { runs = p.below; holds = p.holds; enough = over p k x.enough (omega (arith, p.end_is)) }

  pub cutting_found : Dividing L work b a t k → t.end - t.first ≤ k → {place left : ℕ} → CutFound (lent L b work) t.used (beyond t k) place left
      → Cutting L work b a t k place left
  cutting_found x long f = record { dividing = x; long = long; found = rw (lent_is L b work) at f }

  module _ {place left : ℕ} (q : Reached L work b a t k place left) where
    -- the runs, and where those below the first are cut
    abbrev here : Topped q.cutting.dividing.runs t (stretch_at L b work)
    here = taken q.cutting.dividing

    split : (y : Dividing L work b a t k) → Split (taken y).below (beyond t k) place left
    split y =
        let p = taken y in
        q.cutting.found.split p.below p.holds (over p k y.enough (omega (arith, p.end_is, q.cutting.long)))

    abbrev cut : Split here.below (beyond t k) place left
    cut = split q.cutting.dividing

    low : 2 ≤ place
    low = split_low here.holds cut

    high : place ≤ L
    high = omega (arith, split_high here.holds cut, used_room q.cutting.dividing)

    -- the two words of the pair, read in the work memory
    first_is : get_or work (b * L + (place - 2)) 0 ≡ get_or (stretch_at L b work) (place - 2) 0
    first_is = sym (get_or_stretch L b work (place - 2) (omega (arith, low, high)))

    end_is : get_or work (b * L + (place - 2) + 1) 0 ≡ get_or (stretch_at L b work) (place - 2 + 1) 0
    end_is =
        let n : b * L + (place - 2) + 1 ≡ b * L + (place - 2 + 1) = omega arith in
        rw n (sym (get_or_stretch L b work (place - 2 + 1) (omega (arith, low, high))))

    fits : cut.first + left < 2 ^ 32
    fits = omega (arith, q.small (b * L + (place - 2) + 1), end_is, split_end here.holds cut, cut.short)

    pub placed : Placed L work b place left
    placed =
        record {
          low = low;
          high = high;
          room = omega (arith, high, q.cutting.dividing.giver_room);
          fits = omega (arith, fits, first_is, split_first here.holds cut);
        }

    -- the words below the pair are copied, which leaves the giver's stretch as it was
    module _ (work₁ : List ℕ) (copied : work₁ ≡ paste work (a * L) (drop (b * L) work) (b * L + (place - 2) - b * L)) where
      is : work₁ ≡ paste work (a * L) (drop (b * L) work) (place - 2)
      is =
          let n : b * L + (place - 2) - b * L ≡ place - 2 = omega arith in
          copied ∙ ap (λ (i : ℕ). paste work (a * L) (drop (b * L) work) i) n

      few : place - 2 ≤ L
      few = omega (arith, high)

      lent_same : lent L b work₁ ≡ stretch_at L b work
      lent_same =
          lent_is L b work₁
          ∙ ap (λ (w : List ℕ). stretch_at L b w) is
          ∙ copy_other q.cutting.dividing (place - 2) few b (λ e. q.cutting.dividing.other (sym e))

      pub cleft : Cleft (lent L b work₁) t.used place left
      cleft =
          rw lent_same
          (record {
            runs = here.below;
            k = beyond t k;
            holds = here.holds;
            split = cut;
            low = low;
            high = split_high here.holds cut;
            fits = fits;
          })

      -- then the giver's words are moved down in its stretch
      pub divided_below : (s' : List ℕ) (r : ℕ) → length s' ≡ length (lent L b work₁) → KeptAbove (lent L b work₁) t.used place left s' r
          → Divided L work b a t k (take (b * L) work₁ ++ (s' ++ drop (b * L + L - b * L) (drop (b * L) work₁)))
          (top_with r t.first t.end)
          (top_with (place - 2) (get_or work (b * L + (place - 2)) 0 + left) (get_or work (b * L + (place - 2) + 1) 0))
      divided_below s' r same kept =
          let x = q.cutting.dividing in
          let long₁ : length work₁ ≡ length work = ap (λ (w : List ℕ). length w) is ∙ copy_long x (place - 2) few in
          let room : b * L + L ≤ length work₁ = omega (arith, long₁, x.giver_room) in
          let full : length s' ≡ L = same ∙ ap (λ (w : List ℕ). length w) lent_same ∙ length_stretch L b work x.giver_room in
          let work₂ = take (b * L) work₁ ++ (s' ++ drop (b * L + L - b * L) (drop (b * L) work₁)) in
          let written : stretch_at L b work₂ ≡ s' = back_here L b work₁ s' room full (b * L + L) refl in
          let other : (i : ℕ) → i ≢ b → stretch_at L i work₂ ≡ stretch_at L i (copy x (place - 2) few) =
          λ i h. back_other L b work₁ s' room full (b * L + L) refl i h ∙ ap (λ (w : List ℕ). stretch_at L i w) is in
          record {
            long = length_back L b work₁ s' room full (b * L + L) refl ∙ long₁;
            giver = λ y.
                let p = taken y in
                subst (λ (s : List ℕ). Told (keep k y.runs) (top_with r t.first t.end) s) (sym written)
                (above p k (omega (arith, p.end_is, q.cutting.long)) (kept.holds p.below (beyond t k) (rw lent_same p.holds) (split y)));
            receiver = λ y.
                let p = taken y in
                rw (first_is, end_is, other a x.other)
                (under p k (omega (arith, p.end_is, q.cutting.long)) (split y) (copy_holds x (place - 2) few (split_below p.holds (split y))));
            others = λ i h g. other i h ∙ copy_other x (place - 2) few i g;
          }

  -- ---- the back is cut: one word of the giver's stretch changes, and the asker gets no words

  module _ {others : ℕ} (q : InBack L work b a t k others) where
    abbrev near : Topped q.sharing.runs t (stretch_at L b work)
    near = top_of q.sharing

    kept_more : t.end - t.first < k
    kept_more = (told_back q.sharing q.held_is).0

    given_few : others < last_size near.below
    given_few = (told_back q.sharing q.held_is).1

    abbrev lowest : Lowest near.below
    lowest = back q.sharing kept_more

    long_enough : 2 ≤ L
    long_enough = omega (arith, back_room q.sharing kept_more, length_stretch L b work q.dividing.giver_room)

    pub back_read : b * L + 1 < length work
    back_read = omega (arith, long_enough, q.dividing.giver_room)

    -- its words
    back_pair : (get_or (stretch_at L b work) 0 0 ≡ lowest.first) × (get_or (stretch_at L b work) 1 0 ≡ lowest.first + last_size near.below)
    back_pair = (lowest_first near.holds lowest, lowest_end near.holds lowest)

    pub back_lent : (2 ≤ length (lent L b work)) × (others ≤ get_or (lent L b work) 1 0)
    back_lent = rw (lent_is L b work) (back_room q.sharing kept_more, omega (arith, back_pair, given_few))

    back_cutting : Cutting L work b a t k 2 (last_size near.below - others)
    back_cutting =
        record {
          dividing = q.dividing;
          long = omega (arith, kept_more);
          found =
              found_back near.holds (beyond t k) others
              (omega (arith, total q.sharing, q.sharing.number, near.end_is, kept_more))
              q.sharing.some
              given_few;
        }

    -- the word that changes, and the asker's first reference
    cut_word : get_or (lent L b work) 0 0 + (last_size near.below - others) ≡ get_or (lent L b work) 1 0 - others
    cut_word = rw (lent_is L b work) (omega (arith, back_pair, given_few))

    word_here : (i : ℕ) → i < 2 → get_or work (b * L + i) 0 ≡ get_or (lent L b work) i 0
    word_here i l = sym (ap (λ (s : List ℕ). get_or s i 0) (lent_is L b work) ∙ get_or_stretch L b work i (omega (arith, long_enough)))

    pub divided_back : ((i : ℕ) → get_or work i 0 < 2 ^ 32)
        → Divided L work b a t k
        (take (b * L) work ++ (set (lent L b work) 1 (get_or (lent L b work) 1 0 - others) ++ drop (b * L + L - b * L) (drop (b * L) work)))
        t
        (top_with 0 (get_or (lent L b work) 1 0 - others) (get_or work (b * L + 1) 0))
    divided_back small =
        let left = last_size near.below - others in
        let s' = set (lent L b work) 1 (get_or (lent L b work) 1 0 - others) in
        let w : get_or work (b * L + 0) 0 + left ≡ get_or (lent L b work) 1 0 - others = rw (word_here 0 (omega arith)) cut_word in
        let n : b * L + 0 + 1 ≡ b * L + 1 = omega arith in
        let none : b * L + (2 - 2) - b * L ≡ 0 = omega arith in
        let same : work ≡ paste work (a * L) (drop (b * L) work) (b * L + (2 - 2) - b * L) =
        rw none (paste-zero work (a * L) (drop (b * L) work)) in
        let kept = subst (λ (x : ℕ). KeptAbove (lent L b work) t.used 2 left (set (lent L b work) 1 x) t.used) cut_word
        (kept_back (lent L b work) t.used left (λ z. omega (arith, z, given_few))) in
        rw (w, n) at
        (divided_below (record { cutting = back_cutting; small = small }) work same s' t.used (simp length-set) kept)
