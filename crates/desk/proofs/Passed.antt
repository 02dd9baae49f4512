-- What checks that find no fault establish, as plain facts.
use mathlib.Core.Path.{◌≡◌}
use mathlib.Core.Bool.{true, false, not, ◌||◌}
use mathlib.Core.List.{List}
use Prim.Native.Nat.{ℕ, ◌*◌, ◌≤◌}
use lib.ListN.{length}
use lib.Dec.{eqb}
use borrow.Author.Tests.{eqb-true, not-false}
use Rattle.refusal.proofs.None.{raise_none, first_none, or_none}
use Rattle.graph.specs.Graph.{graph, objects, all_below, well_formed}
use Rattle.graph.specs.Formed.{Formed}
use Rattle.graph.specs.Limits.{most_objects, most_references, most_starts}
use Rattle.graph.proofs.Formed.{formed}
use Rattle.desk.specs.Limits.{most_workers, most_setting}
use Rattle.desk.specs.Lengths.{stretch_length, tally_word_count}
use Rattle.desk.specs.declared.Lengths.{Lengths}
use Rattle.desk.specs.Checks.{outside, setting_fault, count_fault, saved_wrong, buffer_fault, graph_fault, starts_fault, store_fault}
use Rattle.desk.proofs.Checks.{inside, counts_low}

-- 8
pub record Settled (W D K : ℕ) : Type 0 where
  pub some_worker : 1 ≤ W
  pub workers_limit : W ≤ most_workers
  pub some_batch : 1 ≤ D
  pub batch_limit : D ≤ most_setting
  pub some_cutoff : 1 ≤ K
  pub cutoff_limit : K ≤ most_setting

pub settled : (W D K : ℕ) → setting_fault W D K ≡ 0 → Settled W D K
settled W D K e =
    let s = or_none (outside most_workers W || outside most_setting D) (outside most_setting K) (raise_none _ 7 0 e).0 in
    let t = or_none (outside most_workers W) (outside most_setting D) s.0 in
    let w = inside most_workers W t.0 in
    let d = inside most_setting D t.1 in
    let k = inside most_setting K s.1 in
    record {
      some_worker = w.0;
      workers_limit = w.1;
      some_batch = d.0;
      batch_limit = d.1;
      some_cutoff = k.0;
      cutoff_limit = k.1;
    }

-- 4
pub counted : (os ts : List ℕ) → count_fault os ts ≡ 0
    → (1 ≤ objects (graph os ts)) × (objects (graph os ts) ≤ most_objects) × (length ts ≤ most_references)
counted os ts e = counts_low (objects (graph os ts)) (length ts) (raise_none _ 3 0 e).0

-- 7
pub record Exact (n W : ℕ) (l : Lengths) : Type 0 where
  pub marks : l.marks ≡ n
  pub work : l.work ≡ W * stretch_length n
  pub tallies : l.tallies ≡ W * tally_word_count
  pub saved : saved_wrong n W l.saved ≡ false

pub exact : (n W : ℕ) (l : Lengths) → buffer_fault n W l ≡ 0 → Exact n W l
exact n W l e =
    let s = or_none (saved_wrong n W l.saved) _ (raise_none _ 6 0 e).0 in
    let t = or_none (not (eqb l.marks n) || not (eqb l.work (W * stretch_length n))) (not (eqb l.tallies (W * tally_word_count))) s.1 in
    let b = or_none (not (eqb l.marks n)) (not (eqb l.work (W * stretch_length n))) t.0 in
    record {
      marks = eqb-true l.marks n (not-false _ b.0);
      work = eqb-true l.work (W * stretch_length n) (not-false _ b.1);
      tallies = eqb-true l.tallies (W * tally_word_count) (not-false _ t.1);
      saved = s.0;
    }

-- 10, 13, 5
pub record Stored (os ts ss : List ℕ) : Type 0 where
  pub formed : Formed (graph os ts)
  pub starts_few : length ss ≤ most_starts
  pub inside : all_below (objects (graph os ts)) ss ≡ true

pub stored : (os ts ss : List ℕ) → store_fault os ts ss ≡ 0 → Stored os ts ss
stored os ts ss e =
    let f = first_none (graph_fault (graph os ts)) _ e in
    let g = first_none (starts_fault ss) _ f.1 in
    record {
      formed = formed (graph os ts) (not-false (well_formed (graph os ts)) (raise_none _ 9 0 f.0).0);
      starts_few = (inside most_starts (length ss) (raise_none _ 12 0 g.0).0).1;
      inside = not-false (all_below (objects (graph os ts)) ss) (raise_none _ 4 0 g.1).0;
    }
