-- The tally lines: by the words of the tallies they are those of the tallies, and a chunk of four words is one tally.
use Rattle.std.proofs.Common.{◌≡◌, refl, sym, ap, ◌∙◌, List, [], ◌∷◌, ◌++◌, append_assoc, append-nil, ℕ, zero, suc, ◌+◌, ◌*◌, ◌/◌, ◌≤◌, ◌<◌, length, get_or, take, drop, take_all, take-suc, get_or-drop, get_or-take, length-take-le, arith}
use Rattle.std.specs.Simd.{first_chunks}
use Rattle.laws.specs.Blocks.{laid}
use Rattle.laws.proofs.Blocks.{length_laid}
use Rattle.machine.specs.Tally.{Tally, no_tally, tally_words, tallies_words}
use Rattle.lines.specs.Lines.{tally_line, tally_lines, tally_at, word_lines}

-- ---- the words of some tallies

-- a word behind the first four
shifted : (l : List ℕ) (i j : ℕ) → i ≡ 4 + j → get_or l i 0 ≡ get_or (drop 4 l) j 0
shifted l i j e = ap (λ (k : ℕ). get_or l k 0) e ∙ sym (get_or-drop 4 l j 0)

-- four words are the tally of their worker
chunk_of : (words : List ℕ) (k b : ℕ) → b < k → tally_at (get_or (first_chunks 4 k words) b []) 0 ≡ tally_at words b
chunk_of words zero b h = absurd (omega arith)
chunk_of words (suc k) zero h =
    rw (get_or-take 4 words 0 0 (omega arith), get_or-take 4 words 1 0 (omega arith), get_or-take 4 words 2 0 (omega arith), get_or-take 4 words 3 0 (omega arith))
chunk_of words (suc k) (suc b) h =
    chunk_of (drop 4 words) k b (omega arith)
    ∙ rw (
      shifted words (4 * suc b) (4 * b) (omega arith),
      shifted words (4 * suc b + 1) (4 * b + 1) (omega arith),
      shifted words (4 * suc b + 2) (4 * b + 2) (omega arith),
      shifted words (4 * suc b + 3) (4 * b + 3) (omega arith),
    )

pub tally_of_chunk : (words : List ℕ) (chunks : List (List ℕ)) (b : ℕ) → chunks ≡ first_chunks 4 (length words / 4) words → b < length words / 4
    → tally_at (get_or chunks b []) 0 ≡ tally_at words b
tally_of_chunk words chunks b e h = rw e (chunk_of words (length words / 4) b h)

tally_at_lem : (ts : List Tally) (b : ℕ) → tally_at (tallies_words ts) b ≡ get_or ts b no_tally
unfolding tallies_words laid
tally_at_lem [] b = refl
tally_at_lem (t ∷ ts) zero = refl
tally_at_lem (t ∷ ts) (suc b) =
    let l = tallies_words (t ∷ ts) in
    rw (
      shifted l (4 * suc b) (4 * b) (omega arith),
      shifted l (4 * suc b + 1) (4 * b + 1) (omega arith),
      shifted l (4 * suc b + 2) (4 * b + 2) (omega arith),
      shifted l (4 * suc b + 3) (4 * b + 3) (omega arith),
    ) (tally_at_lem ts b)

lines_append : (b : ℕ) (xs ys : List Tally) → tally_lines b (xs ++ ys) ≡ tally_lines b xs ++ tally_lines (b + length xs) ys
unfolding tally_lines
lines_append b [] ys = ap (λ (k : ℕ). tally_lines k ys) (omega arith)
lines_append b (t ∷ xs) ys =
    let e : suc b + length xs ≡ b + length (t ∷ xs) = omega arith in
    ap (λ (l : List ℕ). tally_line b t ++ l) (lines_append (suc b) xs ys ∙ ap (λ (k : ℕ). tally_lines (suc b) xs ++ tally_lines k ys) e)
    ∙ sym (append_assoc (tally_line b t) (tally_lines (suc b) xs) (tally_lines (b + length (t ∷ xs)) ys))

lines_taken : (ts : List Tally) (k : ℕ) → k ≤ length ts → word_lines (tallies_words ts) k ≡ tally_lines 0 (take k ts)
unfolding word_lines tally_lines
lines_taken ts zero h = refl
lines_taken ts (suc k) h =
    let t = get_or ts k no_tally in
    let long : length (take k ts) ≡ k = length-take-le k ts (omega arith) in
    let last : tally_lines (0 + length (take k ts)) (t ∷ []) ≡ tally_line k t =
    append-nil (tally_line (0 + length (take k ts)) t) ∙ ap (λ (i : ℕ). tally_line i t) (omega arith) in
    rw (lines_taken ts k (omega arith), tally_at_lem ts k)
    (sym (ap (tally_lines 0) (take-suc ts k no_tally h)
    ∙ lines_append 0 (take k ts) (t ∷ [])
    ∙ ap (λ (l : List ℕ). tally_lines 0 (take k ts) ++ l) last))

-- the lines by the words are those of the tallies
pub lines_are : (ts : List Tally) (words : List ℕ) → words ≡ tallies_words ts → word_lines words (length words / 4) ≡ tally_lines 0 ts
unfolding tallies_words
lines_are ts words e =
    let long : length words ≡ length ts * 4 =
    ap length e ∙ length_laid tally_words 4 no_tally ts (λ (i : ℕ). refl) in
    let w : length words / 4 ≡ length ts = omega arith in
    rw w (ap (λ (l : List ℕ). word_lines l (length ts)) e
    ∙ lines_taken ts (length ts) (omega arith)
    ∙ ap (tally_lines 0) (take_all (length ts) ts (omega arith)))
