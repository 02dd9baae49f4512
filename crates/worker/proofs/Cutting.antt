-- Where the words of a stretch are cut, and `keep` and `rest` of its runs.
use mathlib.Core.Path.{◌≡◌, refl, sym, ap, ◌∙◌, subst}
use mathlib.Core.List.{List, [], ◌∷◌, ◌++◌, append_assoc, append-nil}
use Prim.Native.Nat.{ℕ, zero, suc, ◌+◌, ◌-◌, ◌*◌, ◌≤◌, ◌<◌}
use native.Mathlib.Nat.{zero-add}
use native.Mathlib.Omega.{arith}
use borrow.Author.Tests.{lt-ltb, le-ltb}
use lib.ListN.{length, get_or, set, take, drop, length-append, length-drop, length-set}
use lib.Seq.{get_or_at, get_or-take, paste, take-paste, length-paste, take-add, take_at, take-take, take-set-lt, drop_at, length-take-le}
use Rattle.laws.specs.Sum.{sum}
use Rattle.laws.proofs.Stores.{get_or_past, set_past}
use Rattle.machine.specs.Run.{Run, run, carried, keep, rest, pairs}
use Rattle.worker.specs.Stretch.{Holds, Split, KeptAbove}
use Rattle.worker.proofs.Pairs.{length_pairs, pairs_append}

-- on the way down: the runs above are kept whole, and the cut is `left` references into what is left
pub record Inside (rs : List Run) (k place left : ℕ) : Type 0 where
  pub above : List Run
  pub first : ℕ
  pub more : ℕ
  pub below : List Run
  pub whole : rs ≡ above ++ (run first more ∷ below)
  pub at : place ≡ 2 * suc (length below)
  pub less : left < carried (run first more ∷ below)
  pub front : keep k rs ≡ above ++ keep left (run first more ∷ below)
  pub back : rest k rs ≡ rest left (run first more ∷ below)

pub inside_start : (s : List ℕ) (used k : ℕ) (rs : List Run) → Holds s used rs → k < carried rs → Inside rs k used k
unfolding carried sum
inside_start s used k [] h l = absurd (omega arith)
inside_start s used k (run f j ∷ rs) h l =
    record { above = []; first = f; more = j; below = rs; whole = refl; at = h.count; less = l; front = refl; back = refl }

-- the words of a stretch around the pair of `run f j`, which ends at `place`
module _ (s : List ℕ) (used : ℕ) {rs : List Run} (h : Holds s used rs) (above : List Run) (f j : ℕ) (below : List Run)
    (whole : rs ≡ above ++ (run f j ∷ below)) (place : ℕ) (at : place ≡ 2 * suc (length below)) where
  pub cut_words : take used s ≡ pairs below ++ (f ∷ (f + suc j) ∷ pairs above)
  unfolding pairs
  cut_words = h.words ∙ rw whole (pairs_append above (run f j ∷ below) ∙ append_assoc (pairs below) (f ∷ (f + suc j) ∷ []) (pairs above))

  pub cut_place : length (pairs below) ≡ place - 2
  cut_place = length_pairs below ∙ omega (arith, at)

  pub cut_count : length rs ≡ length above + suc (length below)
  cut_count = rw length-append at (ap (λ (l : List Run). length l) whole)

  pub cut_high : place ≤ used
  cut_high = omega (arith, at, h.count, cut_count)

  pub cut_first : get_or s (place - 2) 0 ≡ f
  cut_first =
      sym (get_or-take used s (place - 2) 0 (omega (arith, cut_high, at)))
      ∙ ap (λ (l : List ℕ). get_or l (place - 2) 0) cut_words
      ∙ get_or_at (pairs below) f _ 0 (place - 2) cut_place

  pub cut_end : get_or s (place - 2 + 1) 0 ≡ f + suc j
  cut_end =
      sym (get_or-take used s (place - 2 + 1) 0 (omega (arith, cut_high, at)))
      ∙ ap (λ (l : List ℕ). get_or l (place - 2 + 1) 0) cut_words
      ∙ get_or_past (pairs below) _ (place - 2) 1 0 cut_place

  -- what stands below that pair
  pub cut_below : Holds s (place - 2) below
  cut_below =
      record {
        words =
            sym (take-take (place - 2) used s (omega (arith, cut_high)))
            ∙ ap (λ (l : List ℕ). take (place - 2) l) cut_words
            ∙ take_at (pairs below) _ (place - 2) cut_place;
        count = omega (arith, at);
        room = omega (arith, cut_high, h.room);
      }

module _ {s : List ℕ} {used : ℕ} {rs : List Run} (h : Holds s used rs) {k place left : ℕ} (i : Inside rs k place left) where
  -- the size of the run that is looked at, as its two words tell it
  pub cut_size : (get_or s (place - 2) 0 ≤ get_or s (place - 1) 0) × (get_or s (place - 1) 0 - get_or s (place - 2) 0 ≡ suc i.more)
  cut_size =
      let n : place - 1 ≡ place - 2 + 1 = omega (arith, i.at) in
      let e = rw (← n) at (cut_end s used h i.above i.first i.more i.below i.whole place i.at) in
      omega (arith, e, cut_first s used h i.above i.first i.more i.below i.whole place i.at)

  inside_next : suc i.more ≤ left → Inside rs k (place - 2) (left - suc i.more)
  unfolding keep rest carried sum
  inside_next l = next i.below refl
    where
      next : (b : List Run) → i.below ≡ b → Inside rs k (place - 2) (left - suc i.more)
      next [] e = absurd (omega (arith, rw e at i.less))
      next (run f j ∷ b) e =
          record {
            above = i.above ++ (run i.first i.more ∷ []);
            first = f;
            more = j;
            below = b;
            whole = rw append_assoc (rw e at i.whole);
            at = omega (arith, rw e at i.at);
            less = omega (arith, rw e at i.less);
            front = rw append_assoc (rw (lt-ltb i.more left l, e) at i.front);
            back = rw (lt-ltb i.more left l, e) at i.back;
          }

  inside_split : left < suc i.more → Split rs k place left
  unfolding keep rest
  inside_split l =
      let m : suc i.more - left ≡ suc (i.more - left) = omega arith in
      record {
        above = i.above;
        first = i.first;
        more = i.more;
        below = i.below;
        whole = i.whole;
        at = i.at;
        short = omega arith;
        front = rw (le-ltb i.more left (omega arith)) at i.front;
        back = rw (le-ltb i.more left (omega arith), m) at i.back;
      }

  pub cut_stop : left < get_or s (place - 1) 0 - get_or s (place - 2) 0 → Split rs k place left
  cut_stop l = inside_split (rw cut_size.1 at l)

  pub cut_go : get_or s (place - 1) 0 - get_or s (place - 2) 0 ≤ left
      → Inside rs k (place - 2) (left - (get_or s (place - 1) 0 - get_or s (place - 2) 0))
  cut_go l = subst (λ (n : ℕ). Inside rs k (place - 2) (left - n)) (sym cut_size.1) (inside_next (rw cut_size.1 at l))

-- the words around the cut
module _ {s : List ℕ} {used : ℕ} {rs : List Run} (h : Holds s used rs) {k place left : ℕ} (i : Split rs k place left) where
  pub split_low : 2 ≤ place
  split_low = omega (arith, i.at)

  pub split_high : place ≤ used
  split_high = cut_high s used h i.above i.first i.more i.below i.whole place i.at

  pub split_first : get_or s (place - 2) 0 ≡ i.first
  split_first = cut_first s used h i.above i.first i.more i.below i.whole place i.at

  pub split_end : get_or s (place - 2 + 1) 0 ≡ i.first + suc i.more
  split_end = cut_end s used h i.above i.first i.more i.below i.whole place i.at

  pub split_below : Holds s (place - 2) i.below
  split_below = cut_below s used h i.above i.first i.more i.below i.whole place i.at

-- words moved down to the front
shifted : (s p q : List ℕ) (a e : ℕ) → take e s ≡ p ++ q → length p ≡ a → a ≤ e → e ≤ length s
    → take (e - a) (paste s 0 (drop a s) (e - a)) ≡ q
shifted s p q a e is lp le long =
    let n : e ≡ a + (e - a) = omega arith in
    let b : e - a ≤ length (drop a s) = rw length-drop (omega arith) in
    let cut : take e s ≡ take a s ++ take (e - a) (drop a s) = ap (λ (i : ℕ). take i s) n ∙ take-add a (e - a) s in
    ap (λ (i : ℕ). take i (paste s 0 (drop a s) (e - a))) (sym (zero-add (e - a)))
    ∙ take-paste s 0 (drop a s) (e - a) (omega arith) b
    ∙ sym (drop_at (take a s) (take (e - a) (drop a s)) a (length-take-le a s (omega arith)))
    ∙ sym (ap (λ (l : List ℕ). drop a l) cut)
    ∙ ap (λ (l : List ℕ). drop a l) is
    ∙ drop_at p q a lp

module _ (s : List ℕ) (used place left : ℕ) where
  -- the pair at the cut goes with what stands below it
  keep_none : (rs : List Run) (k : ℕ) → Holds s used rs → Split rs k place left → left ≡ 0
      → Holds (paste s 0 (drop place s) (used - place)) (used - place) (keep k rs)
  keep_none rs k h i z =
      let p : List ℕ = pairs i.below ++ (i.first ∷ (i.first + suc i.more) ∷ []) in
      let high = cut_high s used h i.above i.first i.more i.below i.whole place i.at in
      let count = cut_count s used h i.above i.first i.more i.below i.whole place i.at in
      let w : take used s ≡ p ++ pairs i.above =
      rw append_assoc (cut_words s used h i.above i.first i.more i.below i.whole place i.at) in
      let lp : length p ≡ place = rw length-append (omega (arith, length_pairs i.below, i.at)) in
      let f : keep k rs ≡ i.above = i.front ∙ rw z (append-nil i.above) in
      rw f
      (record {
        words = shifted s p (pairs i.above) place used w lp high h.room;
        count = omega (arith, count, h.count, i.at);
        room =
            rw (length-paste s 0 (drop place s) (used - place) (omega (arith, h.room)) (rw length-drop (omega (arith, h.room))))
            (omega (arith, h.room));
      })

  -- the pair at the cut is kept, shortened
  keep_some : (rs : List Run) (k : ℕ) → Holds s used rs → Split rs k place left → (l : ℕ) → left ≡ suc l
      → (t : List ℕ) → t ≡ set s (place - 1) (get_or s (place - 2) 0 + left)
      → Holds (paste t 0 (drop (place - 2) t) (used - (place - 2))) (used - (place - 2)) (keep k rs)
  unfolding pairs
  keep_some rs k h i l z t is =
      let q : List ℕ = i.first ∷ (i.first + left) ∷ pairs i.above in
      let high = cut_high s used h i.above i.first i.more i.below i.whole place i.at in
      let count = cut_count s used h i.above i.first i.more i.below i.whole place i.at in
      let lp = cut_place s used h i.above i.first i.more i.below i.whole place i.at in
      let long : length t ≡ length s = ap (λ (x : List ℕ). length x) is ∙ simp length-set in
      let n : place - 1 ≡ place - 2 + 1 = omega (arith, i.at) in
      let w : take used t ≡ pairs i.below ++ q =
      ap (λ (x : List ℕ). take used x) is
      ∙ take-set-lt used s (place - 1) (get_or s (place - 2) 0 + left) (omega (arith, high, i.at))
      ∙ rw (cut_first s used h i.above i.first i.more i.below i.whole place i.at, n)
      (ap (λ (x : List ℕ). set x (place - 2 + 1) (i.first + left)) (cut_words s used h i.above i.first i.more i.below i.whole place i.at)
      ∙ set_past (pairs i.below) _ (place - 2) 1 (i.first + left) lp) in
      let f : keep k rs ≡ i.above ++ (run i.first l ∷ []) = i.front ∙ rw z in
      let ps : pairs (i.above ++ (run i.first l ∷ [])) ≡ q = pairs_append i.above (run i.first l ∷ []) ∙ rw z in
      rw f
      (record {
        words = shifted t (pairs i.below) q (place - 2) used w lp (omega (arith, high)) (omega (arith, long, h.room)) ∙ sym ps;
        count = rw length-append (omega (arith, count, h.count, i.at));
        room =
            rw (length-paste t 0 (drop (place - 2) t) (used - (place - 2)) (omega (arith, long, h.room)) (rw length-drop (omega (arith, long, h.room))))
            (omega (arith, long, h.room));
      })

  -- the two ways out of `keep_above`
  pub kept_whole : left ≡ 0 → KeptAbove s used place left (paste s 0 (drop place s) (used - place)) (used - place)
  kept_whole z = record { holds = λ rs k h i. keep_none rs k h i z }

  pub kept_cut : (left ≡ 0 → ⊥) → (t : List ℕ) → t ≡ set s (place - 1) (get_or s (place - 2) 0 + left)
      → KeptAbove s used place left (paste t 0 (drop (place - 2) t) (used - (place - 2))) (used - (place - 2))
  kept_cut z t is =
      let e : left ≡ suc (left - 1) = positive left z in
      record { holds = λ rs k h i. keep_some rs k h i (left - 1) e t is }
    where
      positive : (n : ℕ) → (n ≡ 0 → ⊥) → n ≡ suc (n - 1)
      positive zero q = absurd (q refl)
      positive (suc n) q = omega arith
