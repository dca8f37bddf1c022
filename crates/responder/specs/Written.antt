-- What the writers of the messages promise, each of its own. The promises of the public functions do not rest on this file.
use Rattle.std.specs.Prelude.{◌≡◌, List, ℕ}
use Rattle.wire.specs.Bytes.{splice}
use Rattle.image.specs.Contents.{Contents}
use Rattle.image.specs.Read.{ReadAs}
use Rattle.responder.specs.declared.source.Source.{Source}

-- bytes were written to a place, those of whatever contents the image reads as
abbrev pub Written : Source → List ℕ → List ℕ → ℕ → (Contents → List ℕ) → Type 0
Written s before after at bytes = (c : Contents) → ReadAs s.image.bytes.now s.image.index c → after ≡ splice before at (bytes c)
