-- The dead lines, one object after the other.
use Rattle.std.proofs.Common.{◌≡◌, refl, sym, ap, ◌∙◌, List, [], ◌∷◌, ◌++◌, append_assoc, append-nil, ℕ, ◌+◌, ◌<◌, length, get_or, take, take-suc, add-one}
use Rattle.lines.specs.Lines.{dead_line, dead_lines}

-- one list behind another
lines_append : (sizes xs ys : List ℕ) → dead_lines sizes (xs ++ ys) ≡ dead_lines sizes xs ++ dead_lines sizes ys
unfolding dead_lines
lines_append sizes [] ys = refl
lines_append sizes (v ∷ xs) ys =
    ap (λ (l : List ℕ). dead_line v (get_or sizes v 0) ++ l) (lines_append sizes xs ys)
    ∙ sym (append_assoc (dead_line v (get_or sizes v 0)) (dead_lines sizes xs) (dead_lines sizes ys))

-- one object more
pub lines_more : (sizes list : List ℕ) (i : ℕ) → i < length list
    → dead_lines sizes (take i list) ++ dead_line (get_or list i 0) (get_or sizes (get_or list i 0) 0) ≡ dead_lines sizes (take (i + 1) list)
unfolding dead_lines
lines_more sizes list i h =
    let x = get_or list i 0 in
    ap (λ (l : List ℕ). dead_lines sizes (take i list) ++ l) (sym (append-nil (dead_line x (get_or sizes x 0))))
    ∙ sym (lines_append sizes (take i list) (x ∷ []))
    ∙ ap (dead_lines sizes) (sym (take-suc list i 0 h) ∙ ap (λ (k : ℕ). take k list) (sym (add-one i)))
