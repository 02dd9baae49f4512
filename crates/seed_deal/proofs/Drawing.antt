-- The loops over the draws: the seed and the rounds of those that were drawn.
use mathlib.Core.Path.{◌≡◌, refl, ap, sym, ◌∙◌}
use mathlib.Core.List.{List, append-nil}
use Prim.Native.Nat.{ℕ, ◌+◌, ◌*◌, ◌≤◌, ◌<◌}
use native.Mathlib.Nat.{suc-mul, zero-mul, mul-le-mul_right}
use native.Mathlib.Numerals.{add-one}
use native.Mathlib.Omega.{arith}
use lib.ListN.{length, replicate}
use lib.Seq.{drop-length}
use Rattle.laws.specs.Blocks.{laid}
use Rattle.slices.specs.Put.{Put}
use Rattle.slices.proofs.Written.{nothing, then, same_long}
use Rattle.hands.specs.Hand.{round_of, turns_of}
use Rattle.hands.proofs.Rows.{laid_snoc}
use Rattle.seats.specs.Rounding.{Roomy, Rounded}
use Rattle.cards.proofs.Zeros.{zeros}
use Rattle.seed.specs.declared.Seed.{Seed}
use Rattle.seed.specs.Draw.{next, card_of}
use Rattle.seed.specs.Deal.{after_draws, hand_of}
use Rattle.seed.proofs.Draws.{after_snoc, hand_snoc, hand_long, card_known, hand_known}
use Rattle.seed_deal.specs.Drawing.{Drawing, Drew}

-- ---- the loop: before turn i the rounds of the first i draws stand at the beginning

pub record At (s : Seed) (k W : ℕ) (before : List ℕ) (left : Seed) (schedule : List ℕ) (at i : ℕ) : Type 0 where
  pub low : i ≤ k
  pub moved : left ≡ after_draws i s
  pub place : at ≡ i * (2 * W)
  pub put : Put before 0 (turns_of W (hand_of i s)) schedule at

module _ {s : Seed} {k W : ℕ} {before : List ℕ} where
  pub at_start : At s k W before s before 0 0
  unfolding after_draws hand_of turns_of laid
  at_start = record { low = omega arith; moved = refl; place = sym (zero-mul (2 * W)); put = nothing (omega arith) }

  module _ (d : Drawing k W (length before)) {left : Seed} {schedule : List ℕ} {at i : ℕ} (a : At s k W before left schedule at i) where
    pub at_ready : i < k → (t : Seed) → {c : ℕ} → c ≡ card_of t → Roomy W c at (length schedule)
    at_ready h t e =
        record {
          some = d.some;
          few = d.few;
          known = rw e (card_known t);
          room = omega (arith, a.place, suc-mul i (2 * W), d.exact, same_long a.put, mul-le-mul_right (2 * W) h);
        }

    pub at_next : i < k → {t : Seed} {c : ℕ} → t ≡ next left → c ≡ card_of t → {after : List ℕ} {end : ℕ} → Rounded W c at schedule after end
        → At s k W before t after end (i + 1)
    unfolding turns_of
    at_next h {t} {c} e f r =
        let now : t ≡ next (after_draws i s) = e ∙ ap next a.moved in
        let card : c ≡ card_of (next (after_draws i s)) = f ∙ ap card_of now in
        rw add-one
        (record {
          low = omega arith;
          moved = now ∙ sym (after_snoc i s);
          place = omega (arith, a.place, r.ends, suc-mul i (2 * W));
          put = rw (hand_snoc i s, laid_snoc (round_of W) (hand_of i s) (card_of (next (after_draws i s))), ← card) (then a.put r.put);
        })

    pub at_end : k ≤ i → Drew s k W left schedule
    at_end h =
        let n : i ≡ k = omega (arith, a.low) in
        let e : at ≡ length before = omega (arith, a.place, d.exact, ap (λ (j : ℕ). j * (2 * W)) n) in
        record {
          seed_is = a.moved ∙ rw n;
          schedule_is = a.put.holds ∙ rw (e, n, drop-length) (append-nil (turns_of W (hand_of k s)));
        }

-- ---- the loop without a schedule

pub after_next : (i : ℕ) (s : Seed) {left t : Seed} → left ≡ after_draws i s → t ≡ next left → t ≡ after_draws (i + 1) s
after_next i s m e = rw add-one (e ∙ ap next m ∙ sym (after_snoc i s))

-- ---- one worker

pub drew_zeros : {s left : Seed} {k W : ℕ} {schedule : List ℕ} (before : List ℕ) → W ≡ 1 → Drawing k W (length before)
    → left ≡ after_draws k s → schedule ≡ replicate (length before) 0 → Drew s k W left schedule
drew_zeros {s} {k = k} before one d m e =
    record {
      seed_is = m;
      schedule_is =
          zeros before one
          (record {
            some = d.some;
            few = d.few;
            known = hand_known k s;
            exact = rw (hand_long k s) d.exact;
          })
          e;
    }
