-- A store that was read passes; then the marker can find no fault but in its settings, buffers and schedule.
use mathlib.Core.Path.{◌≡◌, refl}
use mathlib.Core.Bool.{true}
use mathlib.Core.List.{List, [], ◌∷◌}
use Prim.Native.Nat.{ℕ, ◌*◌, ◌≤◌, ◌<◌}
use native.Mathlib.Omega.{arith}
use lib.ListN.{length}
use borrow.Author.Tests.{lt-ltb, le-ltb, le-leb, eq-eqb}
use Rattle.laws.specs.Every.{Every}
use Rattle.graph.specs.Graph.{graph, objects as graph_objects, all_below}
use Rattle.graph.specs.Limits.{most_objects, most_references, largest_size, most_starts}
use Rattle.records.specs.Store.{InRange, objects, targets_of, starts_of}
use Rattle.records.specs.Reading.{catalogue_fault, store_of}
use Rattle.records.specs.ReadGraph.{ReadGraph, read_graph}
use Rattle.records.proofs.ReadGraph.{read_graph_lem}
use Rattle.catalogue.proofs.Accepted.{whole_bytes, whole_range}
use Rattle.desk.specs.declared.Settings.{Settings}
use Rattle.desk.specs.Lengths.{tally_word_count, stretch_length}
use Rattle.desk.specs.Checks.{setting_fault, buffer_fault, starts_fault, object_fault, schedule_fault}
use Rattle.machine.specs.Call.{fault, first_fault, lengths}
use Rattle.sweep.specs.Sweep.{all_fit}
use Rattle.program.specs.Program.{Contents, contents_of, call_of}
use Rattle.program.specs.Passing.{Passing}

every_fits : (l : List ℕ) → Every (λ (x : ℕ). x ≤ largest_size) l → all_fit l ≡ true
unfolding all_fit
every_fits [] h = refl
every_fits (x ∷ l) h = rw (le-leb x largest_size h.0) (every_fits l h.1)

every_below : (n : ℕ) (l : List ℕ) → Every (λ (x : ℕ). x < n) l → all_below n l ≡ true
unfolding all_below
every_below n [] h = refl
every_below n (x ∷ l) h = rw (lt-ltb x n h.0) (every_below n l h.1)

starts_taken : (l : List ℕ) → 1 ≤ length l → length l ≤ most_starts → starts_fault l ≡ 0
starts_taken l some few = rw (le-ltb (length l) 1 some, le-ltb most_starts (length l) few)

objects_taken : (n : ℕ) (l : List ℕ) → Every (λ (x : ℕ). x < n) l → object_fault n l ≡ 0
objects_taken n l h = rw (every_below n l h)

-- a store that was read passes
pub passing : (b : List ℕ) → catalogue_fault b ≡ 0 → Passing (contents_of (store_of b))
passing b z =
    let range : InRange (store_of b) = whole_range b (whole_bytes b z) in
    let g : ReadGraph (store_of b) (read_graph (store_of b)) = read_graph_lem (store_of b) range in
    record {
      counts =
          rw (
            le-ltb (graph_objects (read_graph (store_of b))) 1 (omega arith),
            le-ltb most_objects (graph_objects (read_graph (store_of b))) (omega arith),
            le-ltb most_references (length (targets_of (store_of b))) (omega arith),
          );
      formed = rw g.passes;
      some_starts = starts_taken (starts_of (store_of b)) (omega arith) (omega (arith, range.few_leases));
      starts_below = rw g.n_is (objects_taken (objects (store_of b)) (starts_of (store_of b)) (range.index_below, range.leases_below));
      objects_are = g.n_is;
      some = range.some;
      sizes_fit = every_fits (store_of b).sizes range.sizes_small;
    }

-- contents that pass and settings in their ranges, with buffers of the lengths that they ask for: one check is left
pub passing_fault : {s : Contents} (o : Settings) {marks work tallies : ℕ} → Passing s → setting_fault o.workers o.batch o.cutoff ≡ 0
    → marks ≡ length s.sizes → work ≡ o.workers * stretch_length (length s.sizes) → tallies ≡ o.workers * tally_word_count
    → (schedule : List ℕ) → fault (call_of s o schedule) marks work tallies ≡ schedule_fault o.workers schedule
unfolding first_fault
passing_fault {s} o {marks} {work} {tallies} p settings em ew et schedule =
    let buffers : buffer_fault (graph_objects (graph s.offsets s.targets)) o.workers (lengths marks work tallies) ≡ 0 =
    rw (p.objects_are, eq-eqb marks (length s.sizes) em, eq-eqb work (o.workers * stretch_length (length s.sizes)) ew, eq-eqb tallies (o.workers * tally_word_count) et) in
    rw (settings, p.counts, buffers, p.formed, p.some_starts, p.starts_below)
