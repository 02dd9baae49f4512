use Rattle.std.proofs.Common.{◌≡◌, ℕ, zero, suc, ◌<◌, Bool, true, false, ◌&&◌, List, [], ◌∷◌, length, get_or, take, refl, arith, add-one}
use Rattle.names.specs.Names.{is_digit}
use Rattle.laws.specs.Test.{all}
use Rattle.laws.specs.Choice.{both}
use Rattle.lookup.proofs.all_digits.Goals as goal

one : (p : Bool) → both p true ≡ p
one true = refl
one false = refl

grouped : (p q r : Bool) → both p (q && r) ≡ (both p q && r)
grouped true q r = refl
grouped false q r = refl

-- one more element
all_more : (p : ℕ → Bool) (l : List ℕ) (i : ℕ) → i < length l → all p (take (suc i) l) ≡ (all p (take i l) && p (get_or l i 0))
unfolding all
all_more p [] i h = absurd (omega arith)
all_more p (x ∷ l) zero h = one (p x)
all_more p (x ∷ l) (suc i) h = rw (all_more p l i (omega arith)) (grouped (p x) (all p (take i l)) (p (get_or l i 0)))

pub loop-b-init : goal.loop-b-init
unfolding all
loop-b-init c = refl

pub loop-b-preserved : goal.loop-b-preserved
loop-b-preserved c =
    rw (add-one, all_more is_digit c.args.bytes.now c.loop-b.b-index c.loop-b-test.true, ← c.loop-b.invariant, c.is_digit-right.ensures)
