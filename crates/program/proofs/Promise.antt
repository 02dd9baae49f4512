-- The reader's promise, demand 2 and the lines in one: what is printed as dead, by the catalogue alone.
use mathlib.Core.Path.{◌≡◌, refl, sym, subst, ◌∙◌}
use mathlib.Core.Bool.{Bool, true, false}
use mathlib.Core.List.{List, ◌++◌, append-nil}
use mathlib.Core.Logic.{◌⊎◌, inl, inr, ◌↔◌}
use Prim.Native.Nat.{ℕ, ◌<◌}
use native.Mathlib.Omega.{arith}
use Rattle.laws.specs.Words.{Bytes}
use Rattle.laws.specs.Sum.{sum, hit}
use Rattle.refusal.proofs.None.{first_none}
use Rattle.records.specs.Store.{Store, InRange, objects, starts_of}
use Rattle.records.specs.Reading.{catalogue_fault, store_of}
use Rattle.catalogue.specs.Answer.{header_row}
use Rattle.records.specs.ReadGraph.{read_graph}
use Rattle.records.specs.Chain.{Chain}
use Rattle.catalogue.proofs.Accepted.{whole_bytes, whole_range}
use Rattle.records.proofs.ReadGraph.{read_graph_lem}
use Rattle.catalogue.proofs.Accepting.{store_lies, laid_store}
use Rattle.records.proofs.Chain.{chain_is_reach}
use Rattle.desk.specs.declared.Settings.{Settings}
use Rattle.machine.specs.Call.{Call, setting_of, final}
use Rattle.machine.specs.Machine.{result, entries}
use Rattle.machine.specs.Demand2.{FinishedMarks}
use Rattle.machine.specs.Accepted.{Accepted}
use Rattle.theorems.proofs.Accept.{checked}
use Rattle.theorems.proofs.Demand2.{finished_live}
use Rattle.theorems.proofs.Tallies.{tallies}
use Rattle.sweep.specs.Sweep.{dead}
use Rattle.sweep.proofs.Collection.{dead_upwards, dead_exactly}
use Rattle.lines.specs.Lines.{count_lines, tally_lines}
use Rattle.program.specs.Program.{Files, contents_of, order_of, schedule_of, call_of, files_fault, header_fault}
use Rattle.program.specs.Program.{order_fault, call_fault, program_fault, result_text, program_text}
use Rattle.program.specs.Promise.{AddUp, FinishedText, UnfinishedText, Promise}
use Rattle.program.proofs.Printed.{beside}
use Rattle.program.proofs.Passing.{passing, passing_fault}

-- a collection of the store that these bytes tell
module _ (b : List ℕ) (clear : catalogue_fault b ≡ 0) (o : Settings) (schedule : List ℕ) (fine : call_fault o schedule ≡ 0) where
  abbrev s : Store
  s = store_of b

  abbrev call : Call
  call = call_of (contents_of s) o schedule

  range : InRange s
  range = whole_range b (whole_bytes b clear)

  accepted : Accepted (read_graph s) (starts_of s) o.workers (setting_of call)
  accepted =
      let f = first_none (order_fault o) _ fine in
      let free = passing_fault o (passing b clear) (first_none _ _ f.0).0 refl refl refl schedule ∙ f.1 in
      (checked call _ free).accepted

  finished_marks : (result (final call)).finished ≡ true → FinishedMarks (read_graph s) (starts_of s) (final call).marks
  finished_marks e =
      record {
        workers = o.workers;
        setting = setting_of call;
        turns = entries schedule;
        accepted = accepted;
        finished = e;
        marks_are = refl;
      }

  -- the dead are the objects to which no chain of the catalogue leads
  dead_are : (result (final call)).finished ≡ true
      → (v : ℕ) → (0 < sum (hit v) (dead (final call).marks)) ↔ ((v < objects s) × (Chain s (starts_of s) v → ⊥))
  dead_are e v =
      let d = dead_exactly (finished_live (finished_marks e)) v in
      let n = (read_graph_lem s range).n_is in
      let c = chain_is_reach s range (starts_of s) (range.index_below, range.leases_below) v in (
        λ h. (let i = (d.0 h).0 in omega arith, λ q. (d.0 h).1 (c.0 q)),
        λ p. d.1 (let i = p.0 in omega arith, λ q. p.1 (c.1 q)),
      )

  -- what the numbers add up to
  adds_up : AddUp s (result (final call)).counts (final call).tallies
  adds_up =
      let t = tallies accepted (entries schedule) in
      record { followed_total = t.followed_total; handed_total = t.handed_total; won_total = t.won_total }

  told_by : (x : Bool) → (result (final call)).finished ≡ x
      → FinishedText s (result_text (result (final call)) (final call).tallies s.sizes (final call).marks)
      ⊎ UnfinishedText s (result_text (result (final call)) (final call).tallies s.sizes (final call).marks)
  told_by true e =
      inl
      (record {
        counts = (result (final call)).counts;
        tallies = (final call).tallies;
        add_up = adds_up;
        numbers = dead (final call).marks;
        upwards = dead_upwards 0 (final call).marks;
        exactly = dead_are e;
        lines_are = rw e;
      })
  told_by false e =
      inr
      (record {
        counts = (result (final call)).counts;
        tallies = (final call).tallies;
        add_up = adds_up;
        lines_are = rw e (append-nil (count_lines false (result (final call)).counts ++ tally_lines 0 (final call).tallies));
      })

module _ (f : Files) where
  -- accepted files have neither a fault in the catalogue nor in the call
  clean : program_fault f ≡ 0 → (catalogue_fault f.store ≡ 0) × (call_fault (order_of f.order) (schedule_of f.order) ≡ 0)
  clean z =
      let a = first_none (files_fault f) _ z in
      let h = first_none (header_row f.store).refusal _ a.1 in
      let n = first_none (header_fault f.store) _ h.1 in
      first_none (catalogue_fault f.store) _ n.1

  told : program_fault f ≡ 0 → FinishedText (store_of f.store) (program_text f) ⊎ UnfinishedText (store_of f.store) (program_text f)
  told z = let c = clean z in rw z (told_by f.store c.0 (order_of f.order) (schedule_of f.order) c.1 _ refl)

  -- the promise of what the program prints
  pub promise : Bytes f.store → Promise f (program_text f)
  promise h =
      record {
        refused = λ k. sym (beside (contents_of (store_of f.store)) (order_of f.order) (schedule_of f.order) (program_fault f) (program_fault f) k refl);
        a_store = λ z. store_lies h (clean z).0;
        collected = λ z s l.
            subst (λ (x : Store). FinishedText x (program_text f) ⊎ UnfinishedText x (program_text f)) (laid_store s l) (told z);
      }
