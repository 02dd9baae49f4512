-- The memories hold a state with one worker changed, or two: its block and its stretch are written, the others stay.
use mathlib.Core.Path.{◌≡◌, refl, ◌∙◌}
use mathlib.Core.Logic.{◌≢◌, by_cases}
use mathlib.Core.List.{List}
use Prim.Native.Nat.{ℕ, ◌+◌, ◌<◌}
use native.Mathlib.Decide.{dec_lt}
use native.Mathlib.Omega.{arith}
use lib.ListN.{length, get_or, set, length-set}
use lib.Seq.{get_or-set_same, get_or-set_other}
use Rattle.laws.specs.Sum.{sum}
use Rattle.laws.proofs.Sum.{sum_set}
use Rattle.graph.specs.Graph.{Graph}
use Rattle.machine.specs.Tally.{tallies_words}
use Rattle.machine.specs.Machine.{State, Worker, ended, worker}
use Rattle.worker.specs.declared.registers.Block.{Block}
use Rattle.worker.specs.Registers.{Stored}
use Rattle.step.specs.declared.Setup.{Setup}
use Rattle.step.specs.declared.Progress.{Progress}
use Rattle.step.specs.Counting.{running?, counts_of}
use Rattle.step.specs.Ringing.{ring_of}
use Rattle.step.specs.Held.{memory, stretch_at, BlockIs, RestIs, Each, Rests, Holds}

-- every stretch but b's is as it was
abbrev pub SameBut : ℕ → ℕ → ℕ → List ℕ → List ℕ → Type 0
SameBut W L b work work' = (a : ℕ) → a < W → a ≢ b → stretch_at L a work' ≡ stretch_at L a work

pub all_same : (W L b : ℕ) (work : List ℕ) → SameBut W L b work work
all_same W L b work a l h = refl

either_way : (a b : ℕ) {P : Type 0} → (a ≡ b → P) → (a ≢ b → P) → P
either_way a b f g =
    by_cases (dec_lt a b) (λ (p : a < b). g (λ e. omega arith))
    (λ (p : ¬ (a < b)). by_cases (dec_lt b a) (λ (q : b < a). g (λ e. omega arith)) (λ (q : ¬ (b < a)). f (omega (arith, p, q))))

module _ (G : Graph) (W L : ℕ) (ws : List Worker) (regs work : List ℕ) (long : length ws ≡ W) (each : Each G W L ws regs work) where
  pub each_set : (b : ℕ) (w : Worker) {r : Block} {regs' : List ℕ} (work' : List ℕ) → Stored regs b r regs' → SameBut W L b work work'
      → BlockIs G w r (stretch_at L b work') → Each G W L (set ws b w) regs' work'
  each_set b w {r} {regs'} work' st same is a low =
      either_way a b
      (λ (e : a ≡ b).
      rw (e, get_or-set_same ws b w ended (omega (arith, long)), st.here) is)
      (λ (h : a ≢ b).
      rw (get_or-set_other ws b a w ended h, st.others a h, same a low h) (each a low))

-- the sinces of all workers but b stay
abbrev pub RestsBut : ℕ → List ℕ → List ℕ → Type 0
RestsBut b ns ns' = (i : ℕ) → i ≢ b → get_or ns' i 0 ≡ get_or ns i 0

module _ (W : ℕ) (ws : List Worker) (ns regs : List ℕ) (long : length ws ≡ W) (rests : Rests W ws ns regs) where
  pub rests_set : (b : ℕ) (w : Worker) {r : Block} {regs' : List ℕ} (ns' : List ℕ) → Stored regs b r regs' → RestsBut b ns ns'
      → RestIs w (get_or ns' b 0) r → Rests W (set ws b w) ns' regs'
  rests_set b w ns' st same is a low =
      either_way a b
      (λ (e : a ≡ b). rw (e, get_or-set_same ws b w ended (omega (arith, long)), st.here) is)
      (λ (h : a ≢ b). rw (get_or-set_other ws b a w ended h, st.others a h, same a h) (rests a low))

-- one worker changes
module _ {G : Graph} {g : Setup} {s : State} {marks work tallies regs : List ℕ} {p : Progress} (h : Holds G g s (memory marks work tallies regs p))
    (long : length s.workers ≡ g.workers) (b : ℕ) (low : b < g.workers) {x : Worker} (is : worker s b ≡ x) where
  pub hold_one : (w : Worker) {r : Block} {marks' tallies' regs' : List ℕ} (work' : List ℕ) {p' : Progress} → Stored regs b r regs' → length work' ≡ length work
      → SameBut g.workers g.stretch b work work' → BlockIs G w r (stretch_at g.stretch b work')
      → p'.running + running? x ≡ p.running + running? w
      → {s' : State} → s'.workers ≡ set s.workers b w → marks' ≡ s'.marks → tallies' ≡ tallies_words s'.tallies → counts_of p' s'.tallies ≡ s'.counts
      → p'.ring ≡ ring_of s'.ring
      → RestsBut b s.rested s'.rested → RestIs w (get_or s'.rested b 0) r → Holds G g s' (memory marks' work' tallies' regs' p')
  hold_one w {r} {marks'} {tallies'} {regs'} work' {p'} st wl same bl ru {s'} ws ma ta co ri rb re =
      record {
        marks_are = ma;
        tallies_are = ta;
        counts_are = co;
        running_is = rw ws (omega (arith, ru, h.running_is, sum_set running? ended s.workers b x w is (omega (arith, long))));
        ring_is = ri;
        regs_long = st.long ∙ h.regs_long;
        work_long = wl ∙ h.work_long;
        each = rw ws (each_set G g.workers g.stretch s.workers regs work long h.each b w work' st same bl);
        rests = rw ws (rests_set g.workers s.workers s.rested regs long h.rests b w s'.rested st rb re);
      }

  -- and another one
  pub hold_two : (w : Worker) {r : Block} {regs₁ : List ℕ} → Stored regs b r regs₁ → (a : ℕ) → a < g.workers → a ≢ b → {y : Worker}
      → worker s a ≡ y → (z : Worker) {q : Block} {marks' tallies' regs' : List ℕ} (work' : List ℕ) {p' : Progress} → Stored regs₁ a q regs'
      → length work' ≡ length work
      → ((i : ℕ) → i < g.workers → i ≢ b → i ≢ a → stretch_at g.stretch i work' ≡ stretch_at g.stretch i work)
      → BlockIs G w r (stretch_at g.stretch b work') → BlockIs G z q (stretch_at g.stretch a work')
      → p'.running + running? x + running? y ≡ p.running + running? w + running? z
      → {s' : State} → s'.workers ≡ set (set s.workers b w) a z → marks' ≡ s'.marks → tallies' ≡ tallies_words s'.tallies → counts_of p' s'.tallies ≡ s'.counts
      → p'.ring ≡ ring_of s'.ring
      → (ns : List ℕ) → RestsBut b s.rested ns → RestIs w (get_or ns b 0) r → RestsBut a ns s'.rested → RestIs z (get_or s'.rested a 0) q
      → Holds G g s' (memory marks' work' tallies' regs' p')
  hold_two w {r} {regs₁} st a la other {y} iy z {q} {marks'} {tallies'} {regs'} work' {p'} st' wl same bl bl' ru {s'} ws ma ta co ri ns rb re rb' re' =
      record {
        marks_are = ma;
        tallies_are = ta;
        counts_are = co;
        running_is = rw ws (omega (arith, ru, h.running_is, sums, sums'));
        ring_is = ri;
        regs_long = st'.long ∙ st.long ∙ h.regs_long;
        work_long = wl ∙ h.work_long;
        each = rw ws each';
        rests =
            rw ws
            (rests_set g.workers ws₁ ns regs₁ long₁ (rests_set g.workers s.workers s.rested regs long h.rests b w ns st rb re) a z
            s'.rested st' rb' re');
      }
    where
      ws₁ : List Worker
      ws₁ = set s.workers b w

      long₁ : length ws₁ ≡ g.workers
      long₁ = simp length-set long

      sums : sum running? ws₁ + running? x ≡ sum running? s.workers + running? w
      sums = sum_set running? ended s.workers b x w is (omega (arith, long))

      sums' : sum running? (set ws₁ a z) + running? y ≡ sum running? ws₁ + running? z
      sums' = sum_set running? ended ws₁ a y z (get_or-set_other s.workers b a w ended other ∙ iy) (omega (arith, long₁))

      each' : Each G g.workers g.stretch (set ws₁ a z) regs' work'
      each' i li =
          either_way i a
          (λ (e : i ≡ a). rw (e, get_or-set_same ws₁ a z ended (omega (arith, long₁)), st'.here) bl')
          (λ (na : i ≢ a).
          either_way i b
          (λ (e : i ≡ b).
          rw (get_or-set_other ws₁ a i z ended na, st'.others i na, e, get_or-set_same s.workers b w ended (omega (arith, long)), st.here) bl)
          (λ (nb : i ≢ b).
          rw (get_or-set_other ws₁ a i z ended na, st'.others i na, get_or-set_other s.workers b i w ended nb, st.others i nb, same i li nb na) (h.each i li)))
