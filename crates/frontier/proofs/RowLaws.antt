-- Bits in a row that are set in one step leave the others as they are: the arithmetic of one word, and of a list of words.
use mathlib.Core.Path.{◌≡◌, refl, sym, ap, ◌∙◌}
use mathlib.Core.Bool.{Bool, true, false}
use mathlib.Core.List.{List, [], ◌∷◌}
use mathlib.Core.Logic.{◌≢◌, by_cases}
use Prim.Native.Nat.{ℕ, zero, suc, ◌+◌, ◌-◌, ◌*◌, ◌/◌, ◌%◌, ◌^◌, ◌≤◌, ◌<◌}
use native.Mathlib.Decide.{ℕ_discrete, dec_lt}
use native.Mathlib.Nat.{add-zero, one-mul, two-pow-succ, add-div_right}
use native.Mathlib.Numerals.{add-one}
use native.Mathlib.Omega.{arith}
use lib.ListN.{length, get_or, set}
use lib.Seq.{get_or-set_same, get_or-set_other}
use lib.Pow.{pow_pos, shr-shr, shl_exact, mod-pow-add, mod-mod-pow, field, ones_lt, ones_split, high, low, shl-shr}
use Rattle.laws.specs.Span.{span}
use Rattle.laws.specs.Sum.{hit}
use Rattle.laws.proofs.Span.{span_add, span_hit_in}
use Rattle.laws.proofs.Decides.{never}
use Rattle.slices.specs.Bits.{bit}
use Rattle.slices.proofs.BitWords.{inserts, raised_fits, hit_shift}
use Rattle.frontier.specs.Rows.{Row}

-- ---- one word x: c bits from bit k on

two : 2 ^ 1 ≡ 2
two = refl

-- the lowest bit, and those above it
lowest : (x k c : ℕ) → x / 2 ^ k % 2 ^ suc c ≡ 0 → x / 2 ^ k % 2 ≡ 0
lowest x k c e = omega (arith, rw (add-one c, e, two) at (mod-mod-pow (x / 2 ^ k) c 1))

above : (x k c : ℕ) → x / 2 ^ k % 2 ^ suc c ≡ 0 → x / 2 ^ suc k % 2 ^ c ≡ 0
above x k c e = omega (arith, rw (add-one c, e, shr-shr x k 1, add-one k) at (field (x / 2 ^ k) c 1))

-- bits that are 0 each are 0 together
row_zero : (c x k : ℕ) → ((j : ℕ) → k ≤ j → j < k + c → x / 2 ^ j % 2 ≡ 0) → x / 2 ^ k % 2 ^ c ≡ 0
row_zero zero x k h = omega arith
row_zero (suc c) x k h =
    let rest = row_zero c x (suc k) (λ j a b. h j (omega arith) (omega arith)) in
    let first = h k (omega arith) (omega arith) in
    omega (arith, rw (add-one c, shr-shr x k 1, add-one k, rest, two, first) at (mod-pow-add (x / 2 ^ k) c 1))

-- bit k set, seen at bit j, and from the next bit on
raised_bit : (x k j : ℕ) → k < 32 → j < 32 → x / 2 ^ k % 2 ≡ 0 → (x + 2 ^ k) / 2 ^ j % 2 ≡ x / 2 ^ j % 2 + hit j k
unfolding bit
raised_bit x k j h l clear =
    let q : k / 32 ≡ 0 = omega arith in
    let r : k % 32 ≡ k = omega arith in
    let s : j / 32 ≡ 0 = omega arith in
    let t : j % 32 ≡ j = omega arith in
    let p : 1 * 2 ^ k % 4294967296 ≡ 2 ^ k = shl_exact {a = 1} 1 k 32 (omega arith) (omega arith) ∙ one-mul (2 ^ k) in
    let no : get_or (x ∷ []) (k / 32) 0 / 2 ^ (k % 32) % 2 ≡ 1 → ⊥ = rw (q, r) (λ z. omega (arith, z, clear)) in
    rw (q, r, s, t, p) at ((inserts (x ∷ []) k no (rw q (omega arith))).fresh refl j)

raised_next : (x k : ℕ) → x / 2 ^ k % 2 ≡ 0 → (x + 2 ^ k) / 2 ^ suc k ≡ x / 2 ^ suc k
raised_next x k clear =
    rw (← add-one k, ← shr-shr (x + 2 ^ k) k 1, ← shr-shr x k 1, add-div_right x (pow_pos k), two) (omega (arith, clear))

-- bit k, then those above it
doubled : (x p q : ℕ) → 1 ≤ q → x + (q + q - 1) * p ≡ x + p + (q - 1) * (p + p)
doubled x p zero h = absurd (omega arith)
doubled x p (suc r) h =
    let less : suc r + suc r - 1 ≡ suc (r + r) = omega arith in
    let one : suc r - 1 ≡ r = omega arith in
    rw (less, one) (omega arith)

one_more : (x k c : ℕ) → x + (2 ^ suc c - 1) * 2 ^ k ≡ x + 2 ^ k + (2 ^ c - 1) * 2 ^ suc k
one_more x k c = rw (two-pow-succ c, two-pow-succ k) (doubled x (2 ^ k) (2 ^ c) (pow_pos c))

row_raised : (c x k : ℕ) → k + c ≤ 32 → x / 2 ^ k % 2 ^ c ≡ 0 → (j : ℕ) → j < 32
    → (x + (2 ^ c - 1) * 2 ^ k) / 2 ^ j % 2 ≡ x / 2 ^ j % 2 + span (hit j) k c
unfolding span
row_raised zero x k h e j l = let z : x + 0 * 2 ^ k ≡ x = omega arith in rw z (omega arith)
row_raised (suc c) x k h e j l =
    let clear = lowest x k c e in
    let rest = row_raised c (x + 2 ^ k) (suc k) (omega arith) (rw (raised_next x k clear) (above x k c e)) j l in
    rw (one_more x k c) (omega (arith, rest, raised_bit x k j (omega arith) l clear))

row_fits : (c x k : ℕ) → k + c ≤ 32 → x / 2 ^ k % 2 ^ c ≡ 0 → x < 2 ^ 32 → x + (2 ^ c - 1) * 2 ^ k < 2 ^ 32
row_fits zero x k h e l = omega arith
row_fits (suc c) x k h e l =
    let clear = lowest x k c e in
    rw (one_more x k c)
    (row_fits c (x + 2 ^ k) (suc k) (omega arith) (rw (raised_next x k clear) (above x k c e)) (raised_fits x k clear 32 l (omega arith)))

-- ---- how the code tests them and sets them, in a word of w bits

no_product : (m p : ℕ) → 0 < p → m * p ≡ 0 → m ≡ 0
no_product zero p h e = refl
no_product (suc m) p h e = absurd (omega (arith, e))

shifted : (w a c k : ℕ) → c + k ≡ w → a * 2 ^ k % 2 ^ w ≡ (a % 2 ^ c) * 2 ^ k
shifted w a c k e =
    let none : a * 2 ^ k % 2 ^ k ≡ 0 = rw add-zero at (low a k {lo = 0} (pow_pos k)) in
    rw (← e, mod-pow-add (a * 2 ^ k) c k, shl-shr a k, none) (omega arith)

ones : (w c k : ℕ) → c + k ≡ w → (2 ^ w - 1) / 2 ^ k ≡ 2 ^ c - 1
ones w c k e = rw (← e, ones_split c k) (high (2 ^ c - 1) k (ones_lt k))

-- ---- a list of words: c bits of the word at a place, from bit k on

-- a row counts the same where all is further on
pub span_shift : (b x f k : ℕ) → span (hit (b + x)) (b + f) k ≡ span (hit x) f k
unfolding span
span_shift b x f zero = refl
span_shift b x f (suc k) =
    let x' : b + x - b ≡ x = omega arith in
    let f' : b + f - b ≡ f = omega arith in
    let next : suc (b + f) ≡ b + suc f = omega arith in
    let same = rw (x', f') at (hit_shift (b + x) (b + f) b (omega arith) (omega arith)) in
    rw (next, ← same) (omega (arith, span_shift b x (suc f) k))

module _ (ws : List ℕ) (at k c : ℕ) (inside : k + c ≤ 32) where
  -- the word, its bits as those of the set, and the word with the row
  abbrev word : ℕ
  word = get_or ws at 0

  clear : ((j : ℕ) → 32 * at + k ≤ j → j < 32 * at + k + c → bit ws j ≡ 0) → word / 2 ^ k % 2 ^ c ≡ 0
  unfolding bit
  clear none =
      row_zero c word k
      (λ j a b.
      let q : (32 * at + j) / 32 ≡ at = omega arith in
      let r : (32 * at + j) % 32 ≡ j = omega arith in
      rw (q, r) at (none (32 * at + j) (omega arith) (omega arith)))

  raised : at < length ws → word / 2 ^ k % 2 ^ c ≡ 0 → (j : ℕ) → bit (set ws at (word + (2 ^ c - 1) * 2 ^ k)) j ≡ bit ws j + span (hit j) (32 * at + k) c
  unfolding bit
  raised there e j =
      by_cases (ℕ_discrete (j / 32) at)
      (λ (p : j / 32 ≡ at).
      let here : j ≡ 32 * at + j % 32 = omega arith in
      let counts = ap (λ (y : ℕ). span (hit y) (32 * at + k) c) here ∙ span_shift (32 * at) (j % 32) k c in
      rw (p, get_or-set_same ws at (word + (2 ^ c - 1) * 2 ^ k) 0 there) (omega (arith, row_raised c word k inside e (j % 32) (omega arith), counts)))
      (λ (p : j / 32 ≢ at).
      let none : span (hit j) (32 * at + k) c ≡ 0 =
      by_cases (dec_lt 0 (span (hit j) (32 * at + k) c))
      (λ (q : 0 < span (hit j) (32 * at + k) c).
      let i = span_hit_in j (32 * at + k) c q in
      let here : j / 32 ≡ at = omega (arith, i.0, i.1) in
      absurd (p here))
      (λ (q : ¬ (0 < span (hit j) (32 * at + k) c)). omega arith) in
      rw (get_or-set_other ws at (j / 32) (word + (2 ^ c - 1) * 2 ^ k) 0 p) (omega (arith, none)))

  module _ {rest : ℕ} (is : rest ≡ 32 - c) where
    all_bits : c + rest ≡ 32
    all_bits = omega arith

    -- one of the bits is set
    pub part_not : (word / 2 ^ k * 2 ^ rest % 4294967296 ≡ 0 → ⊥) → Row ws (32 * at + k) c false ws
    part_not n =
        record {
          fresh = λ z. never z refl;
          known = λ none. absurd (n (shifted 32 (word / 2 ^ k) c rest all_bits ∙ rw (clear none) (omega arith)));
        }

    module _ (e : word / 2 ^ k * 2 ^ rest % 4294967296 ≡ 0) where
      none_set : word / 2 ^ k % 2 ^ c ≡ 0
      none_set = no_product (word / 2 ^ k % 2 ^ c) (2 ^ rest) (pow_pos rest) (sym (shifted 32 (word / 2 ^ k) c rest all_bits) ∙ e)

      -- what the code adds
      added : 4294967295 / 2 ^ rest * 2 ^ k % 4294967296 ≡ (2 ^ c - 1) * 2 ^ k
      added = rw (ones 32 c rest all_bits) (shl_exact c k 32 (ones_lt c) (omega arith))

      pub part_fits : word < 2 ^ 32 → word + 4294967295 / 2 ^ rest * 2 ^ k % 4294967296 < 2 ^ 32
      part_fits h = rw added (row_fits c word k inside none_set h)

      pub part_set : at < length ws → Row ws (32 * at + k) c true (set ws at (word + 4294967295 / 2 ^ rest * 2 ^ k % 4294967296))
      part_set there = record { fresh = λ z j. rw added (raised there none_set j); known = λ h. refl }

-- ---- a row over several words

pub record RowAt (ws : List ℕ) (from to i : ℕ) (ws' : List ℕ) : Type 0 where
  pub begun : from ≤ i
  pub left : i ≤ to
  pub long : length ws' ≡ length ws
  pub bits : (j : ℕ) → bit ws' j ≡ bit ws j + span (hit j) from (i - from)

pub row_start : {ws : List ℕ} {from to : ℕ} → from ≤ to → RowAt ws from to from ws
unfolding span
row_start {from = from} h =
    let none : from - from ≡ 0 = omega arith in
    record { begun = omega arith; left = h; long = refl; bits = λ j. rw none (omega arith) }

module _ {ws : List ℕ} {from to i : ℕ} {ws' : List ℕ} (x : RowAt ws from to i ws') where
  module _ {f c : ℕ} (place : f ≡ i) (more : i + c ≤ to) {r : Bool} {ws'' : List ℕ} (part : Row ws' f c r ws'') where
    pub row_next : r ≡ true → length ws'' ≡ length ws' → RowAt ws from to (i + c) ws''
    row_next t l =
        let on : i + c - from ≡ i - from + c = omega (arith, x.begun) in
        let here : from + (i - from) ≡ i = omega (arith, x.begun) in
        record {
          begun = omega (arith, x.begun);
          left = more;
          long = l ∙ x.long;
          bits = λ j. rw (on, span_add (hit j) from (i - from) c, here) (omega (arith, rw place at (part.fresh t j), x.bits j));
        }

    pub row_twice : r ≡ false → ((j : ℕ) → from ≤ j → j < from + (to - from) → bit ws j ≡ 0) → ⊥
    row_twice f none =
        never
        (part.known
        (λ j a b.
        by_cases (dec_lt 0 (span (hit j) from (i - from)))
        (λ (q : 0 < span (hit j) from (i - from)). absurd (omega (arith, place, span_hit_in j from (i - from) q)))
        (λ (q : ¬ (0 < span (hit j) from (i - from))).
        omega (arith, x.bits j, none j (omega (arith, place, x.begun)) (omega (arith, place, x.begun))))))
        f

pub row_wrong : {ws : List ℕ} {f k : ℕ} {ws' : List ℕ} → (((j : ℕ) → f ≤ j → j < f + k → bit ws j ≡ 0) → ⊥) → Row ws f k false ws'
row_wrong n = record { fresh = λ z. never z refl; known = λ h. absurd (n h) }
