-- The settings of a store that was read: how many words the collection takes, and that the program has them.
use mathlib.Core.Path.{◌≡◌, ap, ◌∙◌}
use Prim.Native.Nat.{ℕ, ◌*◌, ◌≤◌}
use native.Mathlib.Nat.{mul-le-mul_right}
use native.Mathlib.Omega.{arith}
use lib.ListN.{length, take, replicate}
use lib.Dec.{ltb}
use borrow.Author.Tests.{ltb-false}
use Rattle.refusal.proofs.None.{first_none, raise_none}
use Rattle.desk.specs.declared.Settings.{Settings}
use Rattle.desk.specs.Checks.{setting_fault}
use Rattle.desk.specs.Lengths.{tally_word_count, stretch_length}
use Rattle.program.specs.Limits.{most_objects, most_workers, work_room, tallies_room}
use Rattle.program.specs.Program.{Contents}
use Rattle.text.specs.declared.Page.{Page}
use Rattle.report.specs.Ready.{Collectable}
use Rattle.report.proofs.Parts.{part_long}
use Rattle.report.proofs.Printed.{Markable}

module _ {s : Contents} {o : Settings} {page : Page} (ready : Collectable s o page) where
  both : (setting_fault o.workers o.batch o.cutoff ≡ 0) × (o.workers ≤ most_workers)
  both =
      let f = first_none (setting_fault o.workers o.batch o.cutoff) _ ready.fine in
      (f.0, ltb-false most_workers o.workers (raise_none (ltb most_workers o.workers) 10 0 f.1).0)

  -- the work words that the collection takes, with stretches of so many words
  pub words_few : {long : ℕ} → long ≡ stretch_length (length s.sizes) → o.workers * long ≤ work_room
  words_few e = let few = ready.few in rw e (omega (arith, mul-le-mul_right (stretch_length (length s.sizes)) both.1))

  -- the words of the tallies
  pub tallies_few : o.workers * tally_word_count ≤ tallies_room
  tallies_few = let few = both.1 in omega arith

  -- parts of the program's own memory, of exactly the lengths that the settings ask for
  pub cut : {long : ℕ} → long ≡ stretch_length (length s.sizes)
      → Markable s o (take (length s.sizes) (replicate most_objects 0)) (take (o.workers * long) (replicate work_room 0))
      (take (o.workers * tally_word_count) (replicate tallies_room 0))
  cut {long} e =
      record {
        passing = ready.passing;
        settings = both.0;
        all_marks = part_long (length s.sizes) most_objects ready.few;
        all_work = part_long (o.workers * long) work_room (words_few e) ∙ ap (λ (k : ℕ). o.workers * k) e;
        all_tallies = part_long (o.workers * tally_word_count) tallies_room tallies_few;
      }
