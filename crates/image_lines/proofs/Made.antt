-- What lines make, one after the other: the draft, its good part and the image past each. The text's machine is held against it. Assumes nothing.
use mathlib.Core.List.{List, [], ◌∷◌}
use Prim.Native.Nat.{ℕ}
use Rattle.std.specs.Prelude.{Option, Some, None}
use Rattle.image.specs.Reading.{Result}
use Rattle.image_writer.specs.declared.drafting.Draft.{Draft}
use Rattle.image_lines.specs.Lines.{decoded, bytes_of}
use Rattle.image_lines.specs.Taking.{Taking, no_record, draft_after, good_after, image_after}

pub record Made : Type 0 where
  pub draft : Option (Result Draft)
  pub good : Draft
  pub image : List ℕ

abbrev pub made_in : Taking → Made
made_in t = record { draft = t.draft; good = t.good; image = t.image }

-- before the first line
abbrev pub nothing_made : List ℕ → Made
nothing_made image = record { draft = None; good = no_record; image = image }

-- past a line's bytes
abbrev pub made_after : Made → List ℕ → Made
made_after m b = record {
  draft = Some (draft_after m.draft b);
  good = good_after (draft_after m.draft b) m.good;
  image = image_after m.draft b m.image;
}

-- past lines
abbrev pub made_by : Made → List (List ℕ) → Made
made_by m [] = m
made_by m (l ∷ ls) = made_by (made_after m (bytes_of (decoded l))) ls
