-- Each worker's stretch written out: what the block and the stretch tell of is what the work memory must hold.
use mathlib.Core.Path.{◌≡◌, refl, sym, ap, ◌∙◌}
use mathlib.Core.List.{List, [], ◌∷◌, ◌++◌}
use mathlib.Core.Logic.{◌≢◌, by_cases}
use Prim.Native.Nat.{ℕ, suc, ◌+◌, ◌-◌, ◌*◌, ◌≤◌, ◌<◌}
use native.Mathlib.Decide.{dec_lt}
use native.Mathlib.Nat.{mul-le-mul, mul-le-mul_right, suc-mul}
use native.Mathlib.Omega.{arith}
use lib.ListN.{length, get_or, take, drop, replicate, length-append, length-replicate}
use Rattle.laws.proofs.Blocks.{laid_parts}
use Rattle.graph.specs.Graph.{Graph, objects}
use Rattle.desk.specs.Lengths.{stretch_length}
use Rattle.machine.specs.Run.{Run, run, pairs}
use Rattle.machine.specs.Machine as machine
use Rattle.machine.specs.Machine.{Worker, idle, asking, denied, ended, given, busy, poll, look, claim, runs_of, stretch}
use Rattle.worker.specs.declared.registers.Block.{Block}
use Rattle.worker.specs.declared.stretch.Top.{Top}
use Rattle.worker.specs.Registers.{Room, block_at}
use Rattle.worker.specs.Stretch.{Told, top_with, settled}
use Rattle.worker.proofs.Pairs.{length_pairs}
use Rattle.worker.proofs.Settling.{settled_told}
use Rattle.step.specs.Held.{stretch_at, BlockIs}
use Rattle.step.proofs.Parts.{length_stretch, length_back, back_here, back_other}
use Rattle.marker.specs.Stages.{top_for, Settling}

-- ---- one worker

no_runs : (s : List ℕ) → Told [] (top_with 0 0 0) s
unfolding pairs
no_runs s = record { top = refl; holds = record { words = refl; count = refl; room = omega arith } }

-- the runs that a block and a stretch tell of are the worker's
told : (G : Graph) (w : Worker) (r : Block) (s : List ℕ) → BlockIs G w r s → Told (runs_of w) (top_for r) s
told G idle r s h = rw h (no_runs s)
told G asking r s h = rw h (no_runs s)
told G denied r s h = rw h (no_runs s)
told G ended r s h = rw h (no_runs s)
told G (given rs) r s h = rw h.0 h.1.told
told G (busy c n poll rs) r s h = rw h.status h.carrying.told
told G (busy c n (look k) rs) r s h = rw h.status h.carrying.told
told G (busy c n (claim k) rs) r s h = rw h.status h.carrying.told

-- one worker's stretch has its length
length_stretch_of : (n : ℕ) (w : Worker) → length (runs_of w) ≤ suc n → length (stretch n w) ≡ stretch_length n
unfolding stretch
length_stretch_of n w h = rw (length-append, length-replicate) (omega (arith, length_pairs (runs_of w)))

-- ---- all workers

module _ {W L : ℕ} {work₀ regs : List ℕ} where
  -- the stretches of the first k workers are written out, the others are as they were
  pub record SettledTo (x : Settling W L work₀ regs) (k : ℕ) (work : List ℕ) : Type 0 where
    pub long : length work ≡ length work₀
    pub done : (b : ℕ) → b < k → b < W → stretch_at L b work ≡ stretch (objects x.graph) (get_or x.workers b ended)
    pub left : (b : ℕ) → k ≤ b → b < W → stretch_at L b work ≡ stretch_at L b work₀

  module _ (x : Settling W L work₀ regs) where
    abbrev n : ℕ
    n = objects x.graph

    abbrev runs : ℕ → List Run
    runs b = runs_of (get_or x.workers b ended)

    -- a worker's block lies in the registers, its stretch in the work memory, and that is small
    module _ (b : ℕ) (low : b < W) where
      pub block_room : Room regs b
      block_room = record { low = omega (arith, x.few); long = omega (arith, x.regs_long) }

      pub part_room : b * L + L ≤ length work₀
      part_room = omega (arith, x.work_long, rw suc-mul at (mul-le-mul_right L low))

      pub part_small : b * L + L ≤ 2097216
      part_small =
          let m : L ≤ 131076 = omega (arith, x.stretch_is, x.objects_limit) in
          omega (arith, part_room, x.work_long, mul-le-mul x.few m)

    pub settled_none : SettledTo x 0 work₀
    settled_none = record { long = refl; done = λ b h l. absurd (omega arith); left = λ b h l. refl }

    -- all are
    pub settled_all : {k : ℕ} {work : List ℕ} → SettledTo x k work → W ≤ k → work ≡ machine.memory (objects x.graph) x.workers
    unfolding machine.memory
    settled_all {k} {work} s h =
        laid_parts (stretch n) L ended x.workers work (s.long ∙ x.work_long ∙ ap (λ (m : ℕ). m * L) (sym x.count))
        (λ b l. s.done b (omega (arith, x.count)) (omega (arith, x.count)))

    -- the next one's: the part that is lent goes up to e, and t is the top that the block tells of
    module _ {k : ℕ} {work : List ℕ} (s : SettledTo x k work) (low : k < W) {e : ℕ} (end : e ≡ k * L + L) {t : Top}
        (top : t ≡ top_for (block_at regs k)) where
      work_room : k * L + L ≤ length work
      work_room = omega (arith, part_room k low, s.long)

      lent : take (e - k * L) (drop (k * L) work) ≡ stretch_at L k work
      lent = let m : e - k * L ≡ L = omega (arith, end) in ap (λ (m : ℕ). take m (drop (k * L) work)) m

      lent_long : length (stretch_at L k work) ≡ stretch_length n
      lent_long = length_stretch L k work work_room ∙ x.stretch_is

      told_here : Told (runs k) (top_for (block_at regs k)) (stretch_at L k work)
      told_here = rw (s.left k (omega arith) low) (told x.graph (get_or x.workers k ended) (block_at regs k) (stretch_at L k work₀) (x.each k low))

      -- there is room for one more pair
      pub top_room : t.used + 2 ≤ length (take (e - k * L) (drop (k * L) work))
      top_room = rw (lent, top) (omega (arith, lent_long, by _ _ told_here (x.room k)))
        where
          by : (rs : List Run) (t : Top) {s : List ℕ} → Told rs t s → length rs ≤ suc n → t.used + 2 ≤ stretch_length n
          by [] t h l = rw h.top (omega arith)
          by (run f j ∷ rs) t h l = rw h.top (omega arith)

      -- what is written is the machine's stretch
      written : settled (stretch_at L k work) (top_for (block_at regs k)) ≡ stretch (objects x.graph) (get_or x.workers k ended)
      unfolding stretch
      written =
          settled_told _ _ _ told_here
          ∙ ap (λ (m : ℕ). pairs (runs k) ++ replicate (m - length (pairs (runs k))) 0) lent_long

      module _ {part : List ℕ} (is : part ≡ settled (take (e - k * L) (drop (k * L) work)) t) where
        part_is : part ≡ stretch (objects x.graph) (get_or x.workers k ended)
        part_is = is ∙ rw (lent, top) written

        part_long : length part ≡ L
        part_long = ap length part_is ∙ length_stretch_of n (get_or x.workers k ended) (x.room k) ∙ sym x.stretch_is

        pub settled_next : SettledTo x (k + 1) (take (k * L) work ++ (part ++ drop (e - k * L) (drop (k * L) work)))
        settled_next =
            record {
              long = length_back L k work part work_room part_long e end ∙ s.long;
              done = λ b h l.
                  by_cases (dec_lt b k)
                  (λ (p : b < k). other b (omega arith) ∙ s.done b p l)
                  (λ (p : ¬ (b < k)). let q : b ≡ k = omega (arith, p) in rw q (back_here L k work part work_room part_long e end ∙ part_is));
              left = λ b h l. other b (omega arith) ∙ s.left b (omega arith) l;
            }
          where
            other : (b : ℕ) → b ≢ k
                → stretch_at L b (take (k * L) work ++ (part ++ drop (e - k * L) (drop (k * L) work))) ≡ stretch_at L b work
            other b h = back_other L k work part work_room part_long e end b h
