-- Places that hold no name: none, runs of them in a row, those of a byte that is no digit, of a tail that is not in the index, of the end.
use Rattle.std.proofs.Common.{◌≡◌, ℕ, ◌+◌, ◌-◌, ◌*◌, ◌%◌, ◌<◌, ◌≤◌, Bool, false, eqb, List, length, get_or, sym, ◌∙◌, arith}
use mathlib.Core.Logic.{by_cases}
use native.Mathlib.Decide.{dec_lt}
use borrow.Author.Tests.{eqb-false}
use Rattle.slices.specs.Bits.{bit}
use Rattle.names.specs.Names.{is_digit}
use Rattle.lookup.specs.Index.{tail_at, tail_bytes, tail_values}
use Rattle.lookup.specs.Places.{Barren, Other, Next, Further}
use Rattle.lookup.proofs.Tails.{tail_slid}

module _ {w : ℕ} {index text : List ℕ} where
  pub barren_join : {a b d : ℕ} → Barren w index text a b → Barren w index text b d → Barren w index text a d
  barren_join {a} {b} {d} x y p h g c =
      by_cases (dec_lt p b) (λ (q : p < b). x p h q c) (λ (q : ¬ (p < b)). y p (omega arith) g c)

  -- every window from a on up to a byte that is no digit has that byte
  pub barren_byte : (a q : ℕ) → is_digit (get_or text q 0) ≡ false → q < a + w → Barren w index text a (q + 1)
  barren_byte a q e l p h g c =
      let t = c.digits q (omega arith) (omega arith) in
      let z : ◌≡◌ {A = ℕ} 0 1 = cc in
      omega arith

  -- no window fits
  pub barren_end : (a b : ℕ) → length text < a + w → Barren w index text a b
  barren_end a b l p h g c = omega (arith, c.inside)

  -- a window whose tail is not in the index
  pub barren_tail : (a : ℕ) → tail_bytes ≤ w → (bit index (tail_at text (a + w - tail_bytes)) ≡ 1 → ⊥) → Barren w index text a (a + 1)
  barren_tail a f n p h g c = let e : p ≡ a = omega arith in n (rw e at (c.kept f))

-- ---- sliding: the window ends before `end`, and its tail has the value h

pub record Sliding (w : ℕ) (index text : List ℕ) (from end h : ℕ) : Type 0 where
  pub wide : tail_bytes ≤ w
  pub low : from + w ≤ end
  pub high : end ≤ length text
  pub value : h ≡ tail_at text (end - tail_bytes)
  pub barren : Barren w index text from (end - w)

module _ {w : ℕ} {index text : List ℕ} {from end h : ℕ} (s : Sliding w index text from end h) where
  -- or it is not, and so no name is at this place
  module _ {r : Bool} (e : r ≡ eqb (bit index h) 1) (n : r ≡ false) where
    here_barren : Barren w index text from (end + 1 - w)
    here_barren =
        let l = s.low in
        let f = s.wide in
        let a : end + 1 - w ≡ end - w + 1 = omega arith in
        let b : end - w + w - tail_bytes ≡ end - tail_bytes = omega arith in
        rw a
        (barren_join s.barren
        (barren_tail (end - w) f (rw (b, ← s.value) (eqb-false (bit index h) 1 (sym e ∙ n)))))

    -- it is one
    pub slid_on : end < length text → Sliding w index text from (end + 1) ((8 * h + get_or text end 0) % tail_values)
    slid_on g =
        let l = s.low in
        let f = s.wide in
        record {
          wide = f;
          low = omega arith;
          high = omega arith;
          value = rw s.value (tail_slid text end (omega arith));
          barren = here_barren;
        }

-- ---- from window to window

pub record Skipping (w : ℕ) (index text : List ℕ) (from at known : ℕ) : Type 0 where
  pub low : from ≤ at
  pub high : at ≤ length text
  pub sure : at ≤ known
  pub barren : Barren w index text from at

module _ {w : ℕ} {index text : List ℕ} {from at known : ℕ} (s : Skipping w index text from at known) where
  -- behind a byte that is no digit
  pub skip_other : at + w ≤ length text → {i : ℕ} → Other text known (at + w) i → Skipping w index text from (i + 1) (at + w)
  skip_other e {i} o =
      let a = o.above in
      let b = o.below in
      let k = s.sure in
      let j = s.low in
      record {
        low = omega arith;
        high = omega arith;
        sure = omega arith;
        barren = barren_join s.barren (barren_byte at i o.other b);
      }

  -- where sliding ended
  pub skip_slid : {r : ℕ} → Further w index text at r → Skipping w index text from r r
  skip_slid t = record { low = omega (arith, s.low, t.moves); high = t.inside; sure = omega arith; barren = barren_join s.barren t.barren }

  pub skip_hit : {r : ℕ} → Next w index text at r → Next w index text from r
  skip_hit t = record { barren = barren_join s.barren t.barren; low = omega (arith, s.low, t.low); fits = t.fits }

  -- no window is left
  pub skip_end : length text - at < w → Barren w index text from (length text)
  skip_end g = barren_join s.barren (barren_end at (length text) (omega (arith, s.high)))
