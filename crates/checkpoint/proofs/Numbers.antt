-- Numbers as two words each, written and read one after the other.
use mathlib.Core.Path.{◌≡◌, refl, sym}
use mathlib.Core.List.{List}
use Prim.Native.Nat.{ℕ, ◌+◌, ◌*◌, ◌/◌, ◌%◌, ◌^◌, ◌≤◌, ◌<◌}
use native.Mathlib.Omega.{arith}
use lib.ListN.{length, get_or, set, length-set}
use Rattle.laws.specs.Blocks.{laid}
use Rattle.laws.proofs.Blocks.{length_laid, laid_at}
use Rattle.laws.proofs.Filling.{Filled, filled_none, filled_next, filled_all}
use Rattle.laws.proofs.Span.{listing_length, listing_at, listing_is}
use Rattle.saved.specs.Layout.{two_words, number_at}
use Rattle.saved_theorems.proofs.RoundTrip.{two_at}
use Rattle.checkpoint.specs.Copies.{numbers_of}

-- ---- written

-- so many numbers are written
pub record Putting (numbers : List ℕ) (i : ℕ) (out : List ℕ) : Type 0 where
  pub filled : Filled (laid two_words numbers) (2 * i) out
  pub long : length out ≡ 2 * length numbers

pub two_long : (l : List ℕ) → length (laid two_words l) ≡ 2 * length l
two_long l = omega (arith, length_laid two_words 2 0 l (λ (i : ℕ). refl))

pub putting_none : {numbers out : List ℕ} → length out ≡ 2 * length numbers → Putting numbers 0 out
putting_none {numbers} {out} e = record { filled = filled_none (laid two_words numbers) out (omega (arith, e, two_long numbers)); long = e }

-- word k of number i
word_at : (l : List ℕ) (i k : ℕ) → i < length l → k < 2 → get_or (laid two_words l) (2 * i + k) 0 ≡ get_or (two_words (get_or l i 0)) k 0
word_at l i k h j =
    let e : 2 * i + k ≡ i * 2 + k = omega arith in rw e (laid_at two_words 2 0 0 l i k (λ (m : ℕ). refl) h j)

pub putting_next : {numbers out : List ℕ} {i : ℕ} → Putting numbers i out → i < length numbers
    → Putting numbers (i + 1) (set (set out (2 * i) (get_or numbers i 0 % 2 ^ 32)) (2 * i + 1) (get_or numbers i 0 / 2 ^ 32))
putting_next {numbers} {out} {i} p h =
    let x = get_or numbers i 0 in
    let long = two_long numbers in
    let low : x % 2 ^ 32 ≡ get_or (laid two_words numbers) (2 * i) 0 =
    (let e : 2 * i + 0 ≡ 2 * i = omega arith in sym (rw e at (word_at numbers i 0 h (omega arith)))) in
    let first = filled_next p.filled (omega arith) (x % 2 ^ 32) low in
    let second = filled_next first (omega arith) (x / 2 ^ 32) (sym (word_at numbers i 1 h (omega arith))) in
    let e : 2 * i + 1 + 1 ≡ 2 * (i + 1) = omega arith in
    record { filled = rw e at second; long = simp length-set p.long }

pub putting_all : {numbers out : List ℕ} {i : ℕ} → Putting numbers i out → length numbers ≤ i → out ≡ laid two_words numbers
putting_all {numbers} p h = filled_all p.filled (omega (arith, two_long numbers))

-- ---- read

-- so many numbers are read
pub record Taking (words : List ℕ) (k i : ℕ) (out : List ℕ) : Type 0 where
  pub filled : Filled (numbers_of words k) i out
  pub enough : length words ≡ 2 * k
  pub long : length out ≡ k

pub taking_none : {words out : List ℕ} → length words ≡ 2 * length out → Taking words (length out) 0 out
taking_none {words} {out} e =
    record {
      filled = filled_none (numbers_of words (length out)) out (sym (listing_length (λ (i : ℕ). number_at words (2 * i)) 0 (length out)));
      enough = e;
      long = refl;
    }

pub taking_next : {words out : List ℕ} {k i : ℕ} → Taking words k i out → i < k
    → Taking words k (i + 1) (set out i (get_or words (2 * i) 0 + 4294967296 * get_or words (2 * i + 1) 0))
taking_next {words} {out} {k} {i} t h =
    let x = number_at words (2 * i) in
    let e : 0 + i ≡ i = omega arith in
    let there : x ≡ get_or (numbers_of words k) i 0 = sym (rw e at (listing_at (λ (j : ℕ). number_at words (2 * j)) 0 0 k i h)) in
    record {
      filled = filled_next t.filled (omega (arith, listing_length (λ (j : ℕ). number_at words (2 * j)) 0 k)) x there;
      enough = t.enough;
      long = simp length-set t.long;
    }

pub taking_all : {words out : List ℕ} {k i : ℕ} → Taking words k i out → k ≤ i → out ≡ numbers_of words k
taking_all {words} {out} {k} t h = filled_all t.filled (omega (arith, listing_length (λ (j : ℕ). number_at words (2 * j)) 0 k))

-- numbers written and read are the same
pub numbers_back : (l : List ℕ) (k : ℕ) → length l ≡ k → numbers_of (laid two_words l) k ≡ l
numbers_back l k e =
    listing_is (λ (i : ℕ). number_at (laid two_words l) (2 * i)) 0 0 k l e
    (λ i h. let z : 0 + i ≡ i = omega arith in rw z (two_at l i (omega (arith, e))))
