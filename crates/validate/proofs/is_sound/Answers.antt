use Rattle.laws.proofs.Decides.{decides_no, refuted}
use Rattle.validate.specs.Checked.{setting_of}
use Rattle.validate.proofs.Needed.{form_needed, heads_needed, links_needed}
use Rattle.validate.proofs.Deciding.{marks_lent, tallies_there, ranges_low, starts_below, objects_low, marks_wrong, starts_wrong, loads_wrong, all_passed, sums_low, decided}
use Rattle.validate.proofs.is_sound.Goals as goal

pub returns-then-saved-ne-FORM : goal.returns-then-saved-ne-FORM
returns-then-saved-ne-FORM c = decides_no (λ r. c.if-saved-ne-FORM.true (form_needed c.requires r))

pub returns-in_default : goal.returns-in_default
returns-in_default c = decides_no (λ r. c.in_default.ensures (heads_needed c.requires r))

pub returns-then-not-links_sound : goal.returns-then-not-links_sound
returns-then-not-links_sound c = decides_no (λ r. refuted c.links_sound.ensures c.if-not-links_sound.true (links_needed c.requires r))

pub returns-in_default-check_marks : goal.returns-in_default-check_marks
returns-in_default-check_marks c =
    decides_no (marks_wrong c.requires (marks_lent _ _ _ _ c.marks-from.ensures) c.in_default-check_marks.ensures)

pub check_starts-requires : goal.check_starts-requires
check_starts-requires c =
    let is = marks_lent _ _ _ _ c.marks-from.ensures in
    (starts_below c.requires is, objects_low c.requires is)

pub returns-in_default-check_starts : goal.returns-in_default-check_starts
returns-in_default-check_starts c =
    decides_no (starts_wrong c.requires (marks_lent _ _ _ _ c.marks-from.ensures) c.in_default-check_starts.ensures)

pub returns-in_default-check_loads : goal.returns-in_default-check_loads
returns-in_default-check_loads c =
    decides_no (loads_wrong c.requires (marks_lent _ _ _ _ c.marks-from.ensures) c.in_default-check_loads.ensures)

pub agree-requires : goal.agree-requires
agree-requires c =
    let p = c.requires in
    let links = c.links_sound.ensures.right c.if-not-links_sound.false in
    let all =
    all_passed {g = setting_of c.args.settings} c.if-saved-ne-FORM.false c.in-Some.ensures links c.in-Some-check_marks.ensures
    c.in-Some-check_starts.ensures c.in-Some-check_loads.ensures in
    (tallies_there p, ranges_low p, sums_low p (marks_lent _ _ _ _ c.marks-from.ensures) all)

pub returns : goal.returns
returns c =
    let links = c.links_sound.ensures.right c.if-not-links_sound.false in
    let all =
    all_passed {g = setting_of c.args.settings} c.if-saved-ne-FORM.false c.in-Some.ensures links c.in-Some-check_marks.ensures
    c.in-Some-check_starts.ensures c.in-Some-check_loads.ensures in
    decided c.requires (marks_lent _ _ _ _ c.marks-from.ensures) all (λ i. (c.type_inv.saved i).fits) c.agree.ensures
