-- Tails: below 2^22, moved on by a byte, and those of equal windows.
use Rattle.std.proofs.Common.{◌≡◌, ℕ, ◌+◌, ◌-◌, ◌*◌, ◌%◌, ◌<◌, ◌≤◌, List, get_or, drop, sym, ap, ◌∙◌, arith, get_or-drop, get_or-take}
use Rattle.names.specs.Names.{window}
use Rattle.lookup.specs.Index.{tail_at, tail_bytes, tail_values}

pub tail_low : (bytes : List ℕ) (p : ℕ) → tail_at bytes p < tail_values
unfolding tail_at
tail_low bytes p = omega arith

-- one place further: the first byte goes, and the next one comes
slid : (a b c d e f g h i : ℕ)
    → (8 * ((32768 * (64 * a + 8 * b + c) + 64 * (64 * d + 8 * e + f) + 8 * g + h) % tail_values) + i) % tail_values
    ≡ (32768 * (64 * b + 8 * c + d) + 64 * (64 * e + 8 * f + g) + 8 * h + i) % tail_values
slid a b c d e f g h i = omega arith

tail_next : (bytes : List ℕ) (p : ℕ) → (8 * tail_at bytes p + get_or bytes (p + 8) 0) % tail_values ≡ tail_at bytes (p + 1)
unfolding tail_at
tail_next bytes p =
    let e1 : p + 1 + 1 ≡ p + 2 = omega arith in
    let e2 : p + 1 + 2 ≡ p + 3 = omega arith in
    let e3 : p + 1 + 3 ≡ p + 4 = omega arith in
    let e4 : p + 1 + 4 ≡ p + 5 = omega arith in
    let e5 : p + 1 + 5 ≡ p + 6 = omega arith in
    let e6 : p + 1 + 6 ≡ p + 7 = omega arith in
    let e7 : p + 1 + 7 ≡ p + 8 = omega arith in
    rw (e1, e2, e3, e4, e5, e6, e7)
    (slid (get_or bytes p 0) (get_or bytes (p + 1) 0) (get_or bytes (p + 2) 0) (get_or bytes (p + 3) 0) (get_or bytes (p + 4) 0) (get_or bytes (p + 5) 0)
    (get_or bytes (p + 6) 0) (get_or bytes (p + 7) 0) (get_or bytes (p + 8) 0))

pub tail_slid : (bytes : List ℕ) (end : ℕ) → tail_bytes ≤ end
    → (8 * tail_at bytes (end - tail_bytes) + get_or bytes end 0) % tail_values ≡ tail_at bytes (end + 1 - tail_bytes)
tail_slid bytes end h = go (end - tail_bytes) end (omega arith)
  where
    go : (p q : ℕ) → q ≡ p + tail_bytes → (8 * tail_at bytes (q - tail_bytes) + get_or bytes q 0) % tail_values ≡ tail_at bytes (q + 1 - tail_bytes)
    go p q e =
        let e1 : q - tail_bytes ≡ p = omega arith in
        let e2 : q + 1 - tail_bytes ≡ p + 1 = omega arith in
        rw (e1, e2, e) (tail_next bytes p)

-- bytes of equal windows
pub window_at : (w : ℕ) (a : List ℕ) (p : ℕ) (b : List ℕ) (q : ℕ) → window w a p ≡ window w b q → (i : ℕ) → i < w → get_or a (p + i) 0 ≡ get_or b (q + i) 0
window_at w a p b q e i h =
    sym (get_or-drop p a i 0) ∙ sym (get_or-take w (drop p a) i 0 h) ∙ ap (λ (l : List ℕ). get_or l i 0) e ∙ get_or-take w (drop q b) i 0 h ∙ get_or-drop q b i 0

-- so their tails are the same
pub tail_same : (w : ℕ) (a : List ℕ) (p : ℕ) (b : List ℕ) (q : ℕ) → tail_bytes ≤ w → window w a p ≡ window w b q
    → tail_at a (p + w - tail_bytes) ≡ tail_at b (q + w - tail_bytes)
unfolding tail_at
tail_same w a p b q f e =
    let k = w - tail_bytes in
    let s : p + w - tail_bytes ≡ p + k = omega arith in
    let t : q + w - tail_bytes ≡ q + k = omega arith in
    rw (
      s,
      t,
      window_at w a p b q e (w - tail_bytes) (omega arith),
      at 1 (omega arith),
      at 2 (omega arith),
      at 3 (omega arith),
      at 4 (omega arith),
      at 5 (omega arith),
      at 6 (omega arith),
      at 7 (omega arith),
    )
  where
    at : (i : ℕ) → i < tail_bytes → get_or a (p + (w - tail_bytes) + i) 0 ≡ get_or b (q + (w - tail_bytes) + i) 0
    at i h =
        let s : p + (w - tail_bytes) + i ≡ p + (w - tail_bytes + i) = omega arith in
        let t : q + (w - tail_bytes) + i ≡ q + (w - tail_bytes + i) = omega arith in
        rw (s, t) (window_at w a p b q e (w - tail_bytes + i) (omega arith))
