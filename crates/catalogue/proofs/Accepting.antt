-- The reader's answer to any bytes: no fault of the catalogue where a store lies in them, and then that store.
use mathlib.Core.Path.{◌≡◌, refl, ap, sym, ◌∙◌}
use mathlib.Core.Bool.{Bool, true, false}
use mathlib.Core.List.{List, [], ◌∷◌}
use mathlib.Core.Logic.{inl, inr, ⊎_elim}
use Prim.Native.Nat.{ℕ, zero, suc}
use native.Mathlib.Omega.{arith}
use lib.ListN.{length, drop}
use Rattle.laws.specs.Words.{Bytes}
use Rattle.refusal.specs.Order.{raise, first}
use Rattle.records.specs.Store.{Store, starts_of, most_leases}
use Rattle.records.specs.Layout.{lease}
use Rattle.records.specs.Reading.{Kind, kind_of, length_of, kind_field, short, misfit, misplaced, overfull, miscounted, misnamed, oversized, nothing}
use Rattle.records.specs.Reading.{Reading, refused, accepted, reading, judged, store_of, contents_fault, record_fault, surplus_fault, lease_faults, faults, catalogue_fault}
use Rattle.catalogue.specs.Answer.{ReadRow, lent_to, misfitting, taken, read_row, offsets_after, targets_after, sizes_after, starts_after, Reads}
use Rattle.catalogue.specs.Acceptance.{Faultless, Lays, Returned, Acceptance}
use Rattle.catalogue.proofs.Accepted.{whole_bytes, whole_range}
use Rattle.catalogue.proofs.Acceptance.{whole_layout, layout_accepted}
use Rattle.records.proofs.ReadGraph.{read_graph_lem}
use Rattle.records.proofs.Subject.{follows}

-- ---- no fault of the catalogue has the number 7

raise_other : (t : Bool) {k later : ℕ} → (k ≡ 7 → ⊥) → (later ≡ 7 → ⊥) → raise t k later ≡ 7 → ⊥
raise_other true h g = h
raise_other false h g = g

first_other : (k : ℕ) {later : ℕ} → (k ≡ 7 → ⊥) → (later ≡ 7 → ⊥) → first k later ≡ 7 → ⊥
first_other zero h g = g
first_other (suc k) h g = h

contents_other : (k : Kind) (due n : ℕ) (b : List ℕ) → contents_fault k due n b ≡ 7 → ⊥
contents_other k due n b =
    raise_other (misfit k b) (λ e. omega arith)
    (raise_other (misplaced due k) (λ e. omega arith)
    (raise_other (overfull due k) (λ e. omega arith)
    (raise_other (miscounted k b) (λ e. omega arith)
    (raise_other (misnamed k n b) (λ e. omega arith)
    (raise_other (oversized k b) (λ e. omega arith) (λ e. omega arith))))))

record_other : (due n : ℕ) (b : List ℕ) → record_fault due n b ≡ 7 → ⊥
unfolding record_fault
record_other due n b = raise_other (short b) (λ e. omega arith) (contents_other (kind_of (kind_field b)) due n b)

surplus_other : (n : ℕ) (b : List ℕ) → surplus_fault n b ≡ 7 → ⊥
surplus_other n [] = λ e. omega arith
surplus_other n (x ∷ b) = record_other nothing n (x ∷ b)

leases_other : (n k : ℕ) (b : List ℕ) → lease_faults n k b ≡ 7 → ⊥
unfolding lease_faults
leases_other n zero b = surplus_other n b
leases_other n (suc k) [] = λ e. omega arith
leases_other n (suc k) (x ∷ b) =
    first_other (record_fault lease n (x ∷ b)) (record_other lease n (x ∷ b)) (leases_other n k (drop 8 (x ∷ b)))

faults_other : (n : ℕ) (later b : List ℕ) → faults n later b ≡ 7 → ⊥
unfolding faults
faults_other n [] b = leases_other n most_leases b
faults_other n (due ∷ later) b =
    first_other (record_fault due n b) (record_other due n b) (faults_other n later (drop (length_of (kind_of due)) b))

catalogue_other : (b : List ℕ) → catalogue_fault b ≡ 7 → ⊥
unfolding catalogue_fault
catalogue_other b = faults_other _ _ b

-- ---- bytes and the store that lies in them

-- bytes without a fault are the layout of the store that they tell
pub store_lies : {b : List ℕ} → Bytes b → catalogue_fault b ≡ 0 → (s : Store) × Lays b s
store_lies {b} h e = let w = whole_bytes b e in (store_of b, record { in_range = whole_range b w; bytes_are = whole_layout b h w })

judged_store : (k : ℕ) (r s : Store) → judged k r ≡ accepted s → r ≡ s
judged_store zero r s h = cc
judged_store (suc k) r s h = absurd (let z : ◌≡◌ {A = ℕ} 0 1 = cc in omega arith)

module _ {b : List ℕ} (s : Store) (l : Lays b s) where
  laid_accepted : reading b ≡ accepted s
  laid_accepted = ap reading l.bytes_are ∙ layout_accepted s l.in_range

  -- a store that lies in bytes is the one that they tell
  pub laid_store : store_of b ≡ s
  unfolding reading
  laid_store = judged_store (catalogue_fault b) (store_of b) s laid_accepted

-- ---- the answer

-- a catalogue without a fault is answered by 0 or 7
lent_faultless : (x : Bool) (s : Store) → Faultless (read_row (lent_to x s)).refusal
lent_faultless true s = inr refl
lent_faultless false s = inl refl

module _ {b o t z w : List ℕ} {r : ReadRow} {o' t' z' w' : List ℕ} (d : Reads b o t z w r o' t' z' w') where
  number_is : {x : Reading} → taken b o t z w ≡ x → r.refusal ≡ (read_row x).refusal
  number_is e = ap (λ (y : ReadRow). y.refusal) (d.returned ∙ ap read_row e)

  -- none of the faults
  laid_by : Bytes b → (k : ℕ) → catalogue_fault b ≡ k → Faultless r.refusal → (s : Store) × Lays b s
  unfolding reading
  laid_by h zero e f = store_lies h e
  laid_by h (suc k) e f =
      let n : r.refusal ≡ suc k = number_is {x = refused (suc k)} (rw e) in
      absurd (⊎_elim (λ (p : r.refusal ≡ 0). omega arith) (λ (p : r.refusal ≡ 7). catalogue_other b (e ∙ sym n ∙ p)) f)

  module _ (s : Store) (l : Lays b s) where
    taken_is : taken b o t z w ≡ lent_to (misfitting s (length o) (length t) (length z) (length w)) s
    taken_is = rw (laid_accepted s l)

    returned_by : (x : Bool) → taken b o t z w ≡ lent_to x s → r.refusal ≡ 0 → Returned s r o' t' z' w'
    returned_by true e n = let m = number_is e in absurd (omega arith)
    returned_by false e n =
        let eo = d.offsets_are ∙ ap (λ (y : Reading). offsets_after y o) e in
        let et = d.targets_are ∙ ap (λ (y : Reading). targets_after y t) e in
        let row = d.returned ∙ ap read_row e in
        record {
          n_is = ap (λ (y : ReadRow). y.n) row;
          m_is = ap (λ (y : ReadRow). y.m) row;
          index_is = ap (λ (y : ReadRow). y.index) row;
          count_is = ap (λ (y : ReadRow). y.starts) row;
          offsets_are = eo;
          targets_are = et;
          sizes_are = d.sizes_are ∙ ap (λ (y : Reading). sizes_after y z) e;
          starts_are = d.starts_are ∙ ap (λ (y : Reading). starts_after y w) e;
          graph_is = rw (eo, et) (read_graph_lem s l.in_range);
          follows = follows s (starts_of s);
        }

  pub acceptance : Bytes b → Acceptance b r o' t' z' w'
  acceptance h =
      record {
        exactly = (
          λ f. laid_by h (catalogue_fault b) refl f,
          λ p.
              rw (number_is (taken_is p.0 p.1))
              (lent_faultless (misfitting p.0 (length o) (length t) (length z) (length w)) p.0),
        );
        that_store = λ n s l. returned_by s l (misfitting s (length o) (length t) (length z) (length w)) (taken_is s l) n;
      }
