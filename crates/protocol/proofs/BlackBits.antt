-- The black workers as bits of one word.
use mathlib.Core.Path.{◌≡◌}
use mathlib.Core.Logic.{by_cases}
use Prim.Native.Nat.{ℕ, ◌+◌, ◌/◌, ◌%◌, ◌^◌, ◌<◌}
use native.Mathlib.Decide.{dec_lt}
use native.Mathlib.Omega.{arith}
use Rattle.laws.proofs.Passing.{span_next}
use Rattle.laws.proofs.Span.{span_at}
use Rattle.protocol.specs.Ring.{black_bits}

-- a bit that is set among the first k, and one more that is not
pub bits_some : (x k b : ℕ) → b < k → x / 2 ^ b % 2 ≡ 1 → 0 < black_bits x k
bits_some x k b h e = omega (arith, e, span_at (λ (i : ℕ). x / 2 ^ i % 2) b 0 k (omega arith) (omega arith))

pub bits_next : (x b : ℕ) → black_bits x b ≡ 0 → (x / 2 ^ b % 2 ≡ 1 → ⊥) → black_bits x (b + 1) ≡ 0
bits_next x b z h =
    by_cases (dec_lt 0 (x / 2 ^ b % 2))
    (λ (p : 0 < x / 2 ^ b % 2). absurd (h (omega arith)))
    (λ (p : ¬ (0 < x / 2 ^ b % 2)). omega (arith, z, span_next (λ (i : ℕ). x / 2 ^ i % 2) b))
