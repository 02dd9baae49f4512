-- The first eight bytes of two names, each as one number: the lesser number has the lower name.
use Rattle.std.proofs.Common.{◌≡◌, ℕ, zero, suc, ◌+◌, ◌*◌, ◌<◌, ◌≤◌, List, length, get_or, take, drop, sym, ◌∙◌, mul-le-mul, arith, get_or-take, le-ltb, lt-ltb, lit<}
use mathlib.Core.Logic.{by_cases}
use native.Mathlib.Decide.{dec_lt}
use Rattle.names.specs.Names.{order}
use Rattle.std.specs.declared.cmp.Ordering.TheVariants.{Less, Greater}
use Rattle.std.specs.Int.{from_be_bytes, w64}
use Rattle.names.proofs.Orders.{order_step, order_below, order_back}
use Rattle.lookup.specs.Index.{lead_of}

-- every byte is one
abbrev pub Bytes : List ℕ → Type 0
Bytes l = (i : ℕ) → get_or l i 0 < 256

unfoldable power : ℕ → ℕ
power zero = 1
power (suc k) = 256 * power k

-- k bytes from place i on as one number
unfoldable number : ℕ → ℕ → List ℕ → ℕ
unfolding power
number zero i l = 0
number (suc k) i l = power k * get_or l i 0 + number k (i + 1) l

number_low : (k i : ℕ) (l : List ℕ) → Bytes l → number k i l < power k
unfolding number power
number_low zero i l b = omega arith
number_low (suc k) i l b =
    omega (arith, number_low k (i + 1) l b, mul-le-mul {n₁ = power k} {m₁ = get_or l i 0} {n₂ = power k} {m₂ = 255} (omega arith) (omega (arith, b i)))

number_below : (k i : ℕ) (l m : List ℕ) → k + i ≤ length l → k + i ≤ length m → Bytes l → Bytes m → number k i l < number k i m
    → order (drop i l) (drop i m) ≡ Less
unfolding number
number_below zero i l m f g b c h = absurd (omega arith)
number_below (suc k) i l m f g b c h =
    let x = number_low k (i + 1) l b in
    let y = number_low k (i + 1) m c in
    by_cases (dec_lt (get_or l i 0) (get_or m i 0))
    (λ (p : get_or l i 0 < get_or m i 0). order_below l m i (omega arith) (omega arith) p)
    (λ (p : ¬ (get_or l i 0 < get_or m i 0)).
    by_cases (dec_lt (get_or m i 0) (get_or l i 0))
    (λ (q : get_or m i 0 < get_or l i 0).
    absurd (omega (arith, mul-le-mul {n₁ = power k} {m₁ = get_or m i 0 + 1} {n₂ = power k} {m₂ = get_or l i 0} (omega arith) (omega arith))))
    (λ (q : ¬ (get_or m i 0 < get_or l i 0)).
    let e : get_or l i 0 ≡ get_or m i 0 = omega arith in
    let d = rw e at h in
    sym (order_step l m i (omega arith) (omega arith) e) ∙ number_below k (i + 1) l m (omega arith) (omega arith) b c (omega arith)))

eight_number : (l : List ℕ) → from_be_bytes w64 l ≡ number 8 0 l
unfolding number power
eight_number l = omega arith

first : (l : List ℕ) → 8 ≤ length l → lead_of l ≡ number 8 0 l
unfolding lead_of
first l h =
    rw (le-ltb (length l) 8 h, at 0 (lit< tt), at 1 (lit< tt), at 2 (lit< tt), at 3 (lit< tt), at 4 (lit< tt), at 5 (lit< tt), at 6 (lit< tt), at 7 (lit< tt))
    (eight_number l)
  where
    at : (i : ℕ) → i < 8 → get_or (take 8 l) i 0 ≡ get_or l i 0
    at i g = get_or-take 8 l i 0 g

short : (l m : List ℕ) → length l < 8 → length m < 8 → lead_of l < lead_of m → ⊥
unfolding lead_of
short l m f g h = let d = rw (lt-ltb (length l) 8 f, lt-ltb (length m) 8 g) at h in omega arith

pub lead_below : (l m : List ℕ) → Bytes l → Bytes m → length l ≡ length m → lead_of l < lead_of m → order l m ≡ Less
lead_below l m b c e h =
    by_cases (dec_lt (length l) 8)
    (λ (s : length l < 8). absurd (short l m s (omega arith) h))
    (λ (s : ¬ (length l < 8)). number_below 8 0 l m (omega arith) (omega arith) b c (omega (arith, h, first l (omega arith), first m (omega arith))))

pub lead_above : (l m : List ℕ) → Bytes l → Bytes m → length l ≡ length m → lead_of m < lead_of l → order l m ≡ Greater
lead_above l m b c e h = order_back l m (lead_below m l c b (sym e) h)
