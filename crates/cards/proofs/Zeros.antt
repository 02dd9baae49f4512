-- The turns of one worker are zeros.
use Rattle.std.proofs.Common.{◌≡◌, List, ℕ, ◌*◌, length, ap, ◌∙◌, arith}
use Rattle.std.proofs.Math.ListN.{replicate}
use Rattle.hands.specs.Hand.{turns_of}
use Rattle.hands.proofs.Single.{turns_one}
use Rattle.seats.specs.Rounding.{Dealing}

pub zeros : {W : ℕ} {cards after : List ℕ} (before : List ℕ) → W ≡ 1 → Dealing cards W (length before) → after ≡ replicate (length before) 0
    → after ≡ turns_of W cards
zeros {W} {cards} {after} before one d e =
    let long : length before ≡ length cards * (2 * 1) = omega (arith, d.exact, ap (λ (k : ℕ). length cards * (2 * k)) one) in
    e ∙ rw (one, turns_one cards d.known, long)
