-- The words of each worker's runs in the work memory, worker by worker; and what a block tells of a stretch depends on them alone.
use mathlib.Core.Path.{◌≡◌, ap, ◌∙◌}
use mathlib.Core.List.{List, [], ◌∷◌, ◌++◌}
use mathlib.Core.Logic.{by_cases}
use Prim.Native.Nat.{ℕ, ◌+◌, ◌-◌, ◌*◌, ◌≤◌, ◌<◌}
use native.Mathlib.Decide.{dec_lt}
use native.Mathlib.Nat.{mul-le-mul_right, suc-mul}
use native.Mathlib.Omega.{arith}
use lib.ListN.{length, get_or, take, drop, length-take}
use lib.Seq.{ext_get_or, get_or-take}
use Rattle.graph.specs.Graph.{Graph}
use Rattle.machine.specs.Run.{Run, run}
use Rattle.machine.specs.Machine.{Worker, idle, asking, denied, ended, given, busy}
use Rattle.worker.specs.declared.registers.Block.{Block}
use Rattle.worker.specs.Registers.{block_at}
use Rattle.worker.specs.Stretch.{TopIs, Told, below}
use Rattle.step.specs.Held.{stretch_at, top_of, Carrying, BlockIs}
use Rattle.step.proofs.Parts.{length_stretch, length_back, back_here, back_other}
use Rattle.checkpoint.specs.Copies.{Prefix}
use Rattle.checkpoint.specs.Workers.{Puttable, RunPut, RunsPut}

-- ---- all workers

module _ {stretches regs work₀ : List ℕ} {W L : ℕ} (x : Puttable stretches regs work₀ W L) where
  -- the words of the first k workers are there
  pub record PutTo (k : ℕ) (work : List ℕ) : Type 0 where
    pub long : length work ≡ length work₀
    pub done : (b : ℕ) → b < k → RunPut stretches regs L b work

  pub put_all : {k : ℕ} {work : List ℕ} → PutTo k work → W ≤ k → RunsPut stretches regs W L work
  put_all t h = record { long = t.long ∙ x.work_long; each = λ b l. t.done b (omega arith) }

  module _ (k : ℕ) (low : k < W) where
    pub part_room : k * L + L ≤ W * L
    part_room = rw suc-mul at (mul-le-mul_right L low)

    pub part_lent : (l : List ℕ) {e : ℕ} → e ≡ k * L + L → take (e - k * L) (drop (k * L) l) ≡ stretch_at L k l
    part_lent l {e} end = let m : e - k * L ≡ L = omega (arith, end) in ap (λ (m : ℕ). take m (drop (k * L) l)) m

    -- a part of each is as long as a stretch
    pub parts_long : {work : List ℕ} → PutTo k work → {e : ℕ} → e ≡ k * L + L
        → (length (take (e - k * L) (drop (k * L) work)) ≡ L) × (length (take (e - k * L) (drop (k * L) stretches)) ≡ L)
    parts_long {work} t end = (
      rw (part_lent work end) (length_stretch L k work (omega (arith, part_room, t.long, x.work_long))),
      rw (part_lent stretches end) (length_stretch L k stretches (omega (arith, part_room, x.stretches_long))),
    )

    pub put_next : {work part : List ℕ} {e c : ℕ} → PutTo k work → (end : e ≡ k * L + L) → ((block_at regs k).used ≤ L → c ≡ (block_at regs k).used)
        → Prefix (take (e - k * L) (drop (k * L) stretches)) c part
        → PutTo (k + 1) (take (k * L) work ++ (part ++ drop (e - k * L) (drop (k * L) work)))
    put_next {work} {part} {e} t end count copied =
        let room : k * L + L ≤ length work = omega (arith, part_room, t.long, x.work_long) in
        let part_long : length part ≡ L = copied.long ∙ (parts_long t end).1 in
        record {
          long = length_back L k work part room part_long e end ∙ t.long;
          done = λ b h.
              by_cases (dec_lt b k)
              (λ (p : b < k). rw (back_other L k work part room part_long e end b (λ (q : b ≡ k). omega arith)) (t.done b p))
              (λ (p : ¬ (b < k)).
              let q : b ≡ k = omega arith in
              rw (q, back_here L k work part room part_long e end)
              (λ u.
              record {
                long = copied.long ∙ ap length (part_lent stretches end);
                each = λ i l. copied.each i (omega (arith, count u)) ∙ ap (λ (s : List ℕ). get_or s i 0) (part_lent stretches end);
              }));
        }

-- ---- one worker

-- the words that a top uses
used_are : (rs : List Run) (r : Block) → TopIs rs (top_of r) → r.used ≡ 2 * length (below rs)
used_are [] r e = ap (λ t. t.used) e
used_are (run f j ∷ rs) r e = ap (λ t. t.used) e

prefix_take : {s s' : List ℕ} {k : ℕ} → k ≤ length s → Prefix s k s' → take k s' ≡ take k s
prefix_take {s} {s'} {k} h p =
    ext_get_or 0 (take k s') (take k s) (rw (length-take k s', length-take k s) (omega (arith, p.long)))
    (λ i l.
    let q : i < k = omega (arith, rw length-take at l) in
    rw (get_or-take k s' i 0 q, get_or-take k s i 0 q) (p.each i q))

module _ {s s' : List ℕ} (r : Block) (kept : r.used ≤ length s → Prefix s r.used s') where
  told_kept : {rs : List Run} → Told rs (top_of r) s → Told rs (top_of r) s'
  told_kept {rs} t =
      let same = used_are rs r t.top in
      let p = kept (omega (arith, same, t.holds.room)) in
      record {
        top = t.top;
        holds =
            record {
              words = (rw same at (prefix_take (omega (arith, same, t.holds.room)) p)) ∙ t.holds.words;
              count = t.holds.count;
              room = omega (arith, p.long, t.holds.room);
            };
      }

  carrying_kept : {batch : ℕ} {rs : List Run} → Carrying batch rs r s → Carrying batch rs r s'
  carrying_kept c = record { number = c.number; told = told_kept c.told }

  pub block_kept : (G : Graph) (u : Worker) → BlockIs G u r s → BlockIs G u r s'
  block_kept G idle h = h
  block_kept G asking h = h
  block_kept G denied h = h
  block_kept G ended h = h
  block_kept G (given rs) h = (h.0, carrying_kept h.1)
  block_kept G (busy c n p rs) h =
      record { status = h.status; cell = h.cell; since = h.since; batch = h.batch; carrying = carrying_kept h.carrying; target = h.target }
