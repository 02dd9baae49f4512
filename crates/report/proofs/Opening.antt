-- The program's course up to the header: what it leaves to the store; and the promise, of what is written.
use mathlib.Core.Path.{◌≡◌, refl, sym, ap, subst, ◌∙◌}
use mathlib.Core.Bool.{◌||◌}
use mathlib.Core.List.{List}
use Prim.Native.Nat.{ℕ, zero, suc, ◌≤◌}
use native.Mathlib.Omega.{arith}
use lib.ListN.{length, take}
use lib.Seq.{take_at}
use lib.Dec.{ltb}
use borrow.Author.Tests.{ltb-false}
use Rattle.laws.specs.Words.{Bytes}
use Rattle.refusal.proofs.None.{first_none, raise_none, or_none}
use Rattle.records.specs.Layout.{header}
use Rattle.records.specs.Store.{objects, references}
use Rattle.records.specs.Reading.{store_of, record_fault, n_field, m_field}
use Rattle.std.specs.Prelude.{Ok}
use Rattle.faults.specs.declared.Header.{Header}
use Rattle.catalogue.specs.Answer.{Row, row, header_row, header_values}
use Rattle.catalogue.proofs.Reader.{store_objects, store_references}
use Rattle.program.specs.Limits.{most_objects, most_references, order_length, text_room}
use Rattle.program.specs.Program.{Files, unreadable, files_fault, counts_fault, program_text}
use Rattle.program.specs.Promise.{Promise}
use Rattle.program.proofs.Promise.{promise}
use Rattle.text.specs.declared.Page.{Page}
use Rattle.text.specs.Pages.{Room}
use Rattle.report.specs.Ready.{Holding, Prints}

-- the promise, of the bytes that stand in the buffer
pub promised : (f : Files) → Bytes f.store → {before after : List ℕ} {end : ℕ} → Prints before (program_text f) after end
    → text_room ≤ length before → Promise f (take end after)
promised f h {before} {after} {end} p room =
    let q = p.prints room in
    let e : take end after ≡ program_text f = rw (q.0, q.1) (take_at (program_text f) _ (length (program_text f)) refl) in
    subst (Promise f) (sym e) (promise f h)

-- what the header says is what the store has
fields : {h : Header} (f : ℕ) (b : List ℕ) → row (Ok h) ≡ header_values f b → (h.n ≡ n_field b) × (h.m ≡ m_field b)
fields zero b e = (ap (λ (x : Row). x.n) e, ap (λ (x : Row). x.m) e)
fields (suc f) b e = let q = ap (λ (x : Row). x.refusal) e in absurd (omega arith)

told : {h : Header} (b : List ℕ) → row (Ok h) ≡ header_row b → (h.n ≡ objects (store_of b)) × (h.m ≡ references (store_of b))
unfolding header_row
told b e =
    let f = fields (record_fault header (n_field b) b) b e in
    (f.0 ∙ sym (store_objects b), f.1 ∙ sym (store_references b))

module _ (f : Files) where
  module _ (none : files_fault f ≡ 0) where
    -- files without a fault hold the settings
    order_whole : order_length ≤ length f.order
    order_whole =
        let u = unreadable f.store_file || unreadable f.order_file in
        let g = (raise_none (u || ltb (length f.order) order_length) 11 0 (first_none _ _ none).0).0 in
        ltb-false (length f.order) order_length (or_none u (ltb (length f.order) order_length) g).1

-- files without a fault, and a header without one that tells n and m
pub record Headed (f : Files) (x : Header) : Type 0 where
  pub none : files_fault f ≡ 0
  pub read : row (Ok x) ≡ header_row f.store

module _ {f : Files} {x : Header} (h : Headed f x) where
  module _ (few : counts_fault x.n x.m ≡ 0) where
    pub holding : {page : Page} → Room text_room page → Holding f.store f.order x.n x.m page
    holding room =
        let t = told f.store h.read in
        let g = or_none (ltb most_objects x.n) (ltb most_references x.m) (raise_none _ 10 0 few).0 in
        record {
          objects_are = t.0;
          references_are = t.1;
          few_objects = ltb-false most_objects x.n g.0;
          few_references = ltb-false most_references x.m g.1;
          whole_order = order_whole f h.none;
          room = room;
        }
