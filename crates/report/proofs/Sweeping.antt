-- What a sweep of buffers that it takes leaves: the dead numbers in front of the list, their count and their sum.
use mathlib.Core.Path.{◌≡◌, refl, ap}
use mathlib.Core.Bool.{true, false}
use mathlib.Core.List.{List, [], ◌∷◌, ◌++◌}
use Prim.Native.Nat.{ℕ, zero, suc, ◌+◌, ◌≤◌, ◌<◌}
use native.Mathlib.Omega.{arith}
use lib.ListN.{length, get_or, take, length-append}
use lib.Seq.{take_at}
use borrow.Author.Tests.{le-ltb}
use Rattle.refusal.specs.declared.Refusal.{Refusal}
use Rattle.refusal.specs.Number.{number}
use Rattle.refusal.proofs.Numbers.{numbered}
use Rattle.graph.specs.Limits.{most_objects}
use Rattle.desk.specs.Checks.{outside}
use Rattle.sweep.specs.declared.Swept.{Swept}
use Rattle.std.specs.Prelude.{Ok, Err}
use Rattle.sweep.specs.Sweep.{Row, dead_from, dead, sizes_of, row, sweeping, list_after, fault}
use Rattle.sweep.proofs.Fault.{fault_free}
use Rattle.lines.specs.Rooms.{dead_room}
use Rattle.lines.specs.Lines.{dead_lines, Below, freed_line}
use Rattle.program.specs.Program.{dead_text}
use Rattle.text.specs.declared.Page.{Page}
use Rattle.text.specs.Pages.{Room}
use Rattle.report.specs.Ready.{Sweepable}

dead_few : (b : ℕ) (ms : List ℕ) → length (dead_from b ms) ≤ length ms
unfolding dead_from
dead_few b [] = omega arith
dead_few b (zero ∷ ms) = omega (arith, dead_few (suc b) ms)
dead_few b (suc k ∷ ms) = omega (arith, dead_few (suc b) ms)

dead_below : (b : ℕ) (ms : List ℕ) (i : ℕ) → i < length (dead_from b ms) → get_or (dead_from b ms) i 0 < b + length ms
unfolding dead_from
dead_below b [] i h = absurd (omega arith)
dead_below b (zero ∷ ms) zero h = omega arith
dead_below b (zero ∷ ms) (suc i) h = omega (arith, dead_below (suc b) ms i (omega arith))
dead_below b (suc k ∷ ms) i h = omega (arith, dead_below (suc b) ms i h)

pub record SweptTo (sizes marks list : List ℕ) (page : Page) (count freed : ℕ) : Type 0 where
  pub summed : freed ≡ sizes_of sizes (dead marks)
  pub front : take count list ≡ dead marks
  pub inside : count ≤ length list
  pub objects : Below (take count list) (length sizes)
  pub room : Room (dead_room (length (take count list)) + 27) page

module _ {sizes marks : List ℕ} {page : Page} (s : Sweepable sizes marks page) (list : List ℕ) (all_list : length list ≡ length sizes) where
  free : fault marks sizes list ≡ 0
  free =
      let few : length sizes ≤ most_objects = omega (arith, s.few) in
      let inside : outside most_objects (length sizes) ≡ false = rw (le-ltb (length sizes) 1 s.some, le-ltb most_objects (length sizes) few) refl in
      fault_free marks sizes list inside s.all_marks all_list s.sizes_fit

  pub swept_to : {w : Swept} {list' : List ℕ} → row (Ok w) ≡ sweeping marks sizes list → list' ≡ list_after marks sizes list
      → SweptTo sizes marks list' page w.count w.freed
  swept_to {w} {list'} r l =
      let q : row (Ok w) ≡ _ = rw free at r in
      let z = rw free at l in
      let c : w.count ≡ length (dead marks) = ap (λ (x : Row). x.count) q in
      let few = dead_few 0 marks in
      let front : take w.count list' ≡ dead marks = rw (z, c) (take_at (dead marks) _ (length (dead marks)) refl) in
      record {
        summed = ap (λ (x : Row). x.freed) q;
        front = front;
        inside = rw z (simp length-append (omega arith));
        objects = λ i h. rw front (let d = dead_below 0 marks i (rw front at h) in omega arith);
        room = rw front (omega arith);
      }

  -- it is never refused
  pub not_refused : (r : Refusal) → row (Err r) ≡ sweeping marks sizes list → ⊥
  not_refused r e =
      let q = rw free at e in
      let z : number r ≡ 0 = ap (λ (x : Row). x.number) q in
      omega (arith, numbered r)

-- the lines of the list and of the sum are those that are due
pub swept_text : {sizes marks list : List ℕ} {page : Page} {count freed : ℕ} → SweptTo sizes marks list page count freed
    → dead_lines sizes (take count list) ++ freed_line freed ≡ dead_text true sizes (dead marks)
swept_text s = rw (s.front, s.summed)
