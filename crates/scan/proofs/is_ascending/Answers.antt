use Rattle.std.proofs.Common.{◌≡◌, ℕ, suc, ◌+◌, ◌-◌, ◌<◌, Bool, true, false, List, length, get_or, refl, sym, ◌∙◌, ⊎_elim, arith, rules}
use borrow.Author.Tests.{tests}
use Rattle.std.specs.Bool.{MatchBool}
use Rattle.std.specs.List.{AllWithin, HoldsAt, range_with_len}
use Rattle.std.specs.Ordering.{is_lt}
use Rattle.std.proofs.lemmas.Iterator.{cases_from_all, YieldsList-from_range}
use Rattle.std.proofs.lemmas.List.FromFn.{length-range_with_len, get_or-range_with_len}
use Rattle.laws.specs.Test.{all_up_to}
use Rattle.laws.proofs.Test.{tested, each_up_to, up_to_each}
use Rattle.names.specs.Names.{Names, count, name_at, order, ascends, ascending}
use Rattle.names.specs.Lent.{names_in}
use Rattle.scan.proofs.is_ascending.Goals as goal

-- whether name k is above the one before it
abbrev rises : Names → ℕ → Bool
rises N k = is_lt (order (name_at N (k - 1)) (name_at N k))

-- the numbers of the names but for the first
abbrev later : Names → List ℕ
later N = range_with_len 1 (count N - 1)

-- whether name i is below the one after it
abbrev pairs : Names → ℕ → Bool
pairs N i = is_lt (order (name_at N i) (name_at N (suc i)))

numbered : (N : Names) (i : ℕ) → i < count N - 1 → rises N (get_or (later N) i 0) ≡ pairs N i
numbered N i h = let e : 1 + i ≡ suc i = omega arith in let f : suc i - 1 ≡ i = omega arith in rw (get_or-range_with_len 1 (count N - 1) i 0 h, e, f)

told : (N : Names) (r : Bool)
    → MatchBool r (AllWithin (λ k. rises N k ≡ true) (later N) 0 (length (later N))) ((k : ℕ) × (k < length (later N)) × HoldsAt (λ k. rises N k ≡ false) (later N) k)
    → r ≡ ascending N
unfolding ascends
told N true m =
    let l = length-range_with_len 1 (count N - 1) in
    sym (each_up_to (pairs N) (count N - 1) (λ i q. sym (numbered N i q) ∙ m i 0 (omega arith) (omega arith)))
told N false m =
    let l = length-range_with_len 1 (count N - 1) in
    ⊎_elim
    (λ (p : all_up_to (count N - 1) (pairs N) ≡ true).
    let t = up_to_each (pairs N) (count N - 1) p m.0 (omega (arith, m.1)) in
    let f = sym (numbered N m.0 (omega (arith, m.1))) ∙ m.2 0 in
    let z : ◌≡◌ {A = ℕ} 0 1 = cc in
    absurd (omega arith))
    (λ (p : all_up_to (count N - 1) (pairs N) ≡ false). sym p)
    (tested (all_up_to (count N - 1) (pairs N)))

pub returns : goal.returns
returns c =
    let N = names_in c.args.names.now in
    told N c.all.result
    (cases_from_all _ _ _ (λ k. rises N k ≡ true) (λ k. rises N k ≡ false) c.all.ensures.ran (YieldsList-from_range 1 (count N) (count N - 1) refl refl)
    (λ x q k. search (rules, tests)) (λ x q k. search (rules, tests)))
