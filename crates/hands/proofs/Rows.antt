-- Texts one behind another: stores in a row, and a loop that writes one text for each element of a list.
use mathlib.Core.Path.{◌≡◌, refl, ap, sym, ◌∙◌}
use mathlib.Core.List.{List, [], ◌∷◌, ◌++◌, append_assoc, append-nil}
use Prim.Native.Nat.{ℕ, suc, ◌+◌, ◌≤◌, ◌<◌}
use lib.ListN.{length, get_or, take, drop}
use lib.Seq.{sets, sets-eq, take-suc}
use Rattle.laws.specs.Blocks.{laid}
use Rattle.slices.specs.Put.{Put}
use Rattle.slices.proofs.Written.{then}

-- stores one behind the other are a text written there
pub stored : (l : List ℕ) (i : ℕ) (vs : List ℕ) → i + length vs ≤ length l → Put l i vs (sets l i vs) (i + length vs)
stored l i vs h = record { ends = refl; fits = h; holds = sets-eq vs l i h ∙ append_assoc (take i l) vs (drop (i + length vs) l) }

pub laid_snoc : {A B : Type 0} (f : A → List B) (l : List A) (x : A) → laid f (l ++ (x ∷ [])) ≡ laid f l ++ f x
unfolding laid
laid_snoc f [] x = append-nil (f x)
laid_snoc {B = B} f (y ∷ l) x = ap (λ (t : List B). f y ++ t) (laid_snoc f l x) ∙ sym (append_assoc (f y) (laid f l) (f x))

-- behind the texts of the first i elements that of the next
pub laid_next : (f : ℕ → List ℕ) (l : List ℕ) (i : ℕ) {before mid after : List ℕ} {at end : ℕ} → i < length l
    → Put before 0 (laid f (take i l)) mid at → Put mid at (f (get_or l i 0)) after end → Put before 0 (laid f (take (suc i) l)) after end
laid_next f l i h p q = rw (take-suc l i 0 h, laid_snoc f (take i l) (get_or l i 0)) (then p q)
