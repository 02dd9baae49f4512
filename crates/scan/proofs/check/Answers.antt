use Rattle.std.proofs.Common.{sym}
use Rattle.scan.proofs.Fault.{fault_count, fault_names, fault_owners, fault_work, fault_ends, fault_named, fault_owned, fault_width, fault_digits, fault_order, fault_free}
use Rattle.scan.proofs.check.Goals as goal
use Rattle.scan.proofs.check.Goals.{then-names_misfit-via-then-names_misfit, then-names_misfit-via-else-names_misfit+then-texts, then-names_misfit-via-else-names_misfit+else-texts+then-not-is_blank}
use Rattle.scan.proofs.check.Goals.{then-not-is_below-via-then-not-is_below, then-not-is_below-via-else-not-is_below+then-not-is_below-2}
use Rattle.scan.proofs.check.Goals.{then-names-eq0-via-then-names-eq0, then-names-eq0-via-else-names-eq0+then-not-all_digits, then-names-eq0-via-else-names-eq0+else-not-all_digits+then-not-is_ascending}

pub returns-then-objects_outside : goal.returns-then-objects_outside
returns-then-objects_outside c = sym (fault_count _ _ _ _ (cc))

pub returns-then-names_misfit : goal.returns-then-names_misfit
returns-then-names_misfit c =
    elim c.then-names_misfit.branch [
      | then-names_misfit-via-then-names_misfit w ↦ sym (fault_names _ _ _ _ (cc) (cc))
      | then-names_misfit-via-else-names_misfit+then-texts w ↦ sym (fault_owners _ _ _ _ (cc) (cc) w.if-texts.true)
      | then-names_misfit-via-else-names_misfit+else-texts+then-not-is_blank w ↦ sym (fault_work _ _ _ _ (cc) (cc) w.if-texts.false (cc))
    ]

pub returns-then-not-ends_right : goal.returns-then-not-ends_right
returns-then-not-ends_right c = sym (fault_ends _ _ _ _ (cc) (cc) c.if-texts.false (cc) (cc))

pub returns-then-not-is_below : goal.returns-then-not-is_below
returns-then-not-is_below c =
    elim c.then-not-is_below.branch [
      | then-not-is_below-via-then-not-is_below w ↦ sym (fault_named _ _ _ _ (cc) (cc) c.if-texts.false (cc) (cc) (cc))
      | then-not-is_below-via-else-not-is_below+then-not-is_below-2 w ↦ sym (fault_owned _ _ _ _ (cc) (cc) c.if-texts.false (cc) (cc) (cc) (cc))
    ]

pub returns-then-names-eq0 : goal.returns-then-names-eq0
returns-then-names-eq0 c =
    elim c.then-names-eq0.branch [
      | then-names-eq0-via-then-names-eq0 w ↦ sym (fault_width _ _ _ _ (cc) (cc) c.if-texts.false (cc) (cc) (cc) (cc) w.if-names-eq0.true)
      | then-names-eq0-via-else-names-eq0+then-not-all_digits w ↦
          sym (fault_digits _ _ _ _ (cc) (cc) c.if-texts.false (cc) (cc) (cc) (cc) w.if-names-eq0.false (cc))
      | then-names-eq0-via-else-names-eq0+else-not-all_digits+then-not-is_ascending w ↦
          sym (fault_order _ _ _ _ (cc) (cc) c.if-texts.false (cc) (cc) (cc) (cc) w.if-names-eq0.false (cc) (cc))
    ]

pub returns : goal.returns
returns c = sym (fault_free _ _ _ _ (cc) (cc) c.if-texts.false (cc) (cc) (cc) (cc) c.if-names-eq0.false (cc) (cc))
