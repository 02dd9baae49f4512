-- The token ring: an idle worker ends only where nobody carries anything, and every move keeps what the ring says.
use mathlib.Core.Path.{◌≡◌, refl, sym, ap, ◌∙◌}
use mathlib.Core.List.{List}
use mathlib.Core.Logic.{◌⊎◌, inl, inr, ◌≢◌, by_cases}
use Prim.Native.Nat.{ℕ, zero, suc, ◌+◌, ◌-◌, ◌*◌, ◌≤◌, ◌<◌}
use native.Mathlib.Decide.{dec_lt}
use native.Mathlib.Omega.{arith}
use lib.ListN.{length, get_or, set, length-set, get_or-eq_default}
use lib.Seq.{get_or-set_same, get_or-set_other}
use Rattle.laws.specs.Span.{span}
use Rattle.laws.specs.Sum.{sum, hit}
use Rattle.laws.proofs.Span.{span_add, span_agree_from, span_at}
use Rattle.laws.proofs.Sum.{sum_at, sum_zero_each, hit_same, hit_other}
use Rattle.graph.specs.Graph.{Graph}
use Rattle.machine.specs.Run.{carried}
use Rattle.machine.specs.Ring.{Colour, white, black, shade, Ring, colour_of, darkened, blackened, passed_on, black_below, black_above}
use Rattle.machine.specs.Machine.{Setting, State, idle, ended, worker, carried_by, carried_all, stopped, passes}
use Rattle.machine.specs.Accepted.{Accepted}
use Rattle.machine.specs.Sound.{Sound}
use Rattle.machine.specs.Move.{Over, behind, home, Move, still, passed, alone, asked, hands, refuses, follow}
use Rattle.theorems.proofs.Facts.{busy_carried}
use Rattle.theorems.proofs.Rested.{Carriers, Blackens, Rested}

-- 1 for a black worker i
abbrev pub dark : Ring → ℕ → ℕ
dark r i = shade (colour_of r i)

-- a token that is passed is black if it was or its passer is
darkened_shade : (c t : Colour) → (shade (darkened c t) ≤ shade c + shade t) × (shade c ≤ shade (darkened c t)) × (shade t ≤ shade (darkened c t))
darkened_shade white white = omega arith
darkened_shade white black = omega arith
darkened_shade black white = omega arith
darkened_shade black black = omega arith

-- at worker 0 there are two that can be black
pub home_black : (r : Ring) → r.holder ≡ 0 → black_below r ≡ shade r.token + dark r 0
unfolding span
home_black r e = rw e (omega arith)

-- worker b changes its colour: the others keep theirs
module _ (r : Ring) (b : ℕ) (c : Colour) where
  other_colour : (i : ℕ) → i ≢ b → shade (get_or (set r.colours b c) i white) ≡ dark r i
  other_colour i h = ap shade (get_or-set_other r.colours b i c white h)

  -- so those below it, and those above it
  colours_below : (k : ℕ) → k ≤ b → span (λ (i : ℕ). shade (get_or (set r.colours b c) i white)) 0 k ≡ span (dark r) 0 k
  colours_below k h =
      span_agree_from (λ (i : ℕ). shade (get_or (set r.colours b c) i white)) (dark r) 0 k
      (λ (i : ℕ) (l : 0 ≤ i) (u : i < 0 + k). other_colour i (λ (e : i ≡ b). omega arith))

  colours_above : (k : ℕ) → span (λ (i : ℕ). shade (get_or (set r.colours b c) i white)) (suc b) k ≡ span (dark r) (suc b) k
  colours_above k =
      span_agree_from (λ (i : ℕ). shade (get_or (set r.colours b c) i white)) (dark r) (suc b) k
      (λ (i : ℕ) (l : suc b ≤ i) (u : i < suc b + k). other_colour i (λ (e : i ≡ b). omega arith))

  same_colour : b < length r.colours → shade (get_or (set r.colours b c) b white) ≡ shade c
  same_colour h = ap shade (get_or-set_same r.colours b c white h)

-- ---- the token is passed: who is black below the holder and above it

-- worker 0 sends it
pub sent_below : (W : ℕ) (r : Ring) → 0 < W → 0 < length r.colours → r.holder ≡ 0 → black_below (passed_on W 0 r) ≡ black_above W r
unfolding span
sent_below W r h l e =
    rw e (omega (arith, same_colour r 0 white l, colours_above r 0 white (W - 1)))

pub sent_above : (W : ℕ) (r : Ring) → 0 < W → black_above W (passed_on W 0 r) ≡ 0
unfolding span
sent_above W r h = let z : W - suc (W - 1) ≡ 0 = omega arith in rw z refl

-- any other one passes it
module _ (W b : ℕ) (r : Ring) (e : r.holder ≡ suc b) where
  pub passed_below : (black_below (passed_on W (suc b) r) ≤ black_below r) × (black_below r ≤ 2 * black_below (passed_on W (suc b) r))
  unfolding span
  passed_below =
      let more = span_add (dark r) 0 (suc b) 1 in
      let two : suc b + 1 ≡ suc (suc b) = omega arith in
      let last : 0 + suc b ≡ suc b = omega arith in
      rw e
      (omega (
        arith,
        rw (two, last) at more,
        colours_below r (suc b) white (suc b) (omega arith),
        darkened_shade (colour_of r (suc b)) r.token,
      ))

  pub passed_above : suc b < W → suc b < length r.colours → black_above W (passed_on W (suc b) r) ≡ black_above W r
  unfolding span
  passed_above h l =
      let z : W - suc b ≡ suc (W - suc (suc b)) = omega arith in
      rw (e, z) (omega (arith, same_colour r (suc b) white l, colours_above r (suc b) white (W - suc (suc b))))

-- ---- a sound state

module _ {G : Graph} {starts : List ℕ} {W : ℕ} {g : Setting} {s : State} (A : Accepted G starts W g) (S : Sound G starts W g s) where
  -- worker 0 is among those that have ended
  stopped_some : 0 < stopped (worker s 0) → 0 < sum stopped s.workers
  stopped_some h =
      omega (arith, sum_at stopped ended s.workers 0 (worker s 0) refl (omega (arith, S.sized.workers_length, A.some_worker)))

  -- where an idle worker ends, nobody carries anything: worker 0 has found everyone white, or it has ended before
  pub over_none : {b : ℕ} → worker s b ≡ idle → Over s b → carried_all s ≡ 0
  unfolding carried sum
  over_none q (behind h) = S.stopped_empty (stopped_some h)
  over_none {b} q (home z e t c) = sum_zero_each carried_by ended s.workers each
    where
      none : black_below s.ring ≡ 0
      none = home_black s.ring e ∙ omega (arith, ap shade t, ap shade c)

      each : (i : ℕ) → carried_by (worker s i) ≡ 0
      each zero = ap (λ (i : ℕ). carried_by (worker s i)) (sym z) ∙ ap carried_by q
      each (suc i) = S.above_holder none (suc i) (omega (arith, e))

  -- it is worker 0, or worker 0 has ended before; the token is at worker 0
  pub over_first : {b : ℕ} → worker s b ≡ idle → Over s b → (stopped (worker s 0) + hit b 0 ≡ 1) × (s.ring.holder ≡ 0)
  over_first {b} q (behind h) =
      omega (
        arith,
        S.first_ended (stopped_some h),
        hit_other b 0 (λ (z : b ≡ 0). omega (arith, h, ap stopped q, ap (λ (i : ℕ). stopped (worker s i)) z)),
      )
  over_first {b} q (home z e t c) =
      omega (arith, e, ap stopped q, ap (λ (i : ℕ). stopped (worker s i)) z, ap (λ (i : ℕ). hit i 0) z, hit_same 0)

  -- ---- what a turn keeps

  pub record Ringed (s' : State) : Type 0 where
    pub long : length s'.ring.colours ≡ W
    pub below : s'.ring.holder < W
    pub clear : black_below s'.ring ≡ 0 → (b : ℕ) → s'.ring.holder < b → carried_by (worker s' b) ≡ 0

  -- the ring stays
  ringed_same : {s' : State} → s'.ring ≡ s.ring → Carriers s s' → Ringed s'
  ringed_same {s'} e k =
      record {
        long = ap (λ (r : Ring). length r.colours) e ∙ S.sized.colours_length;
        below = rw e S.holder_below;
        clear = λ (z : black_below s'.ring ≡ 0) (b : ℕ) (h : s'.ring.holder < b).
            by_cases (dec_lt 0 (carried_by (worker s' b)))
            (λ (p : 0 < carried_by (worker s' b)). absurd (omega (arith, k b p, S.above_holder (rw e at z) b (rw e at h))))
            (λ (p : ¬ (0 < carried_by (worker s' b))). omega arith);
      }

  -- b hands over, and is black: it carries, so it was not above the holder, or somebody else is black there
  ringed_black : (b : ℕ) {s' : State} → Blackens s b s' → Ringed s'
  ringed_black b {s'} h =
      let r = s.ring in
      let some = h.0 in
      record {
        long = ap (λ (x : Ring). length x.colours) h.1 ∙ length-set r.colours b black ∙ S.sized.colours_length;
        below = rw h.1 S.holder_below;
        clear = λ (z : black_below s'.ring ≡ 0) (i : ℕ) (l : s'.ring.holder < i). absurd (never (rw h.1 at z));
      }
    where
      never : black_below (blackened b s.ring) ≡ 0 → ⊥
      never z =
          by_cases (dec_lt s.ring.holder b)
          (λ (p : s.ring.holder < b).
          let below = colours_below s.ring b black (suc s.ring.holder) (omega arith) in
          omega (arith, h.0, S.above_holder (omega (arith, z, below)) b p))
          (λ (p : ¬ (s.ring.holder < b)).
          let there : b < length s.ring.colours = omega (arith, S.sized.colours_length, S.holder_below) in
          omega (
            arith,
            z,
            same_colour s.ring b black there,
            span_at (dark (blackened b s.ring)) b 0 (suc s.ring.holder) (omega arith) (omega arith),
          ))

  -- the idle holder passes the token
  ringed_passed : (b : ℕ) → worker s b ≡ idle → s.ring.holder ≡ b → Ringed (passes s b)
  unfolding carried sum
  ringed_passed zero q e =
      record {
        long = length-set s.ring.colours 0 white ∙ S.sized.colours_length;
        below = omega (arith, S.sized.workers_length, A.some_worker);
        clear = λ z b h. nobody b (omega (arith, S.sized.workers_length, h));
      }
    where
      nobody : (b : ℕ) → W ≤ b → carried_by (worker s b) ≡ 0
      nobody b h = ap carried_by (get_or-eq_default s.workers ended (omega (arith, S.sized.workers_length)))
  ringed_passed (suc b) q e =
      record {
        long = length-set s.ring.colours (suc b) white ∙ S.sized.colours_length;
        below = omega (arith, S.holder_below, e);
        clear = λ z i h. clear z i h;
      }
    where
      own : carried_by (worker s (suc b)) ≡ 0
      own = ap carried_by q

      clear : black_below (passed_on (length s.workers) (suc b) s.ring) ≡ 0 → (i : ℕ) → b < i → carried_by (worker s i) ≡ 0
      clear z i h =
          by_cases (dec_lt (suc b) i)
          (λ (p : suc b < i).
          S.above_holder (omega (arith, z, passed_below (length s.workers) b s.ring e)) i (omega (arith, e)))
          (λ (p : ¬ (suc b < i)). let same : i ≡ suc b = omega arith in ap (λ (j : ℕ). carried_by (worker s j)) same ∙ own)

  by_carriers : (b : ℕ) {s' : State} → s'.ring ≡ s.ring → Carriers s s' ⊎ Blackens s b s' → Ringed s'
  by_carriers b e (inl k) = ringed_same e k
  by_carriers b e (inr h) = ringed_black b h

  -- every move keeps the ring
  pub ringed_move : {b : ℕ} {t : List ℕ} {s' : State} → Move G g s b t s' → Rested s b s' W → Ringed s'
  ringed_move {b} (still h) R = by_carriers b refl R.carriers
  ringed_move {b} (passed q e o h) R = ringed_passed b q e
  ringed_move {b} (alone q r) R = by_carriers b refl R.carriers
  ringed_move {b} (asked v q r) R = by_carriers b refl R.carriers
  ringed_move {b} (hands a q r h) R = ringed_black b (rw q (busy_carried A S b q), refl)
  ringed_move {b} (refuses a q r h) R = by_carriers b refl R.carriers
  ringed_move {b} (follow q r w) R = by_carriers b refl R.carriers
