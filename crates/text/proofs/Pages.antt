-- One text behind another on a page, and the room that is left.
use Rattle.std.proofs.Common.{◌≡◌, refl, List, [], ◌++◌, ℕ, ◌+◌, ◌≤◌, length, ◌∙◌}
use Rattle.slices.proofs.Written.{nothing, exactly, then_in, room_left, as_text_in}
use Rattle.text.specs.declared.Page.{Page}
use Rattle.text.specs.Pages.{Room, Wrote}

module _ {m : ℕ} {t : List ℕ} {before page : Page} (w : Wrote m t before page) where
  -- one after another, in the room of both
  pub then : {n : ℕ} {u : List ℕ} {after : Page} (k : ℕ) → m + n ≤ k → Wrote n u page after → Wrote k (t ++ u) before after
  then k h v = record { same_buffer = v.same_buffer ∙ w.same_buffer; put = then_in w.put k h v.put }

  -- the room that is left
  pub room : (n : ℕ) → Room (m + n) before → Room n page
  room n h = room_left w.put n h

  -- with no more room than the text takes
  pub tight : Wrote (length t) t before page
  tight = let p = w.put.put in record { same_buffer = w.same_buffer; put = exactly p }

  -- the same text, written another way
  pub as_page : {u : List ℕ} → t ≡ u → Wrote m u before page
  as_page e = record { same_buffer = w.same_buffer; put = as_text_in e w.put }

-- nothing written
pub blank : (page : Page) → page.at ≤ length page.out.now → Wrote 0 [] page page
blank page h = record { same_buffer = refl; put = exactly (nothing h) }
