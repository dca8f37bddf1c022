-- What an accepted image and its index are, for those that use them. No promise of a public function rests on this file.
use Rattle.std.specs.Prelude.{◌≡◌, List, ℕ, ◌≤◌}
use Rattle.image.specs.Limits.{measurements_limit, chains_limit}
use Rattle.image.specs.Contents.{Contents, ValidIdentity}
use Rattle.image.specs.Reading.{reading, found}
use Rattle.image.specs.Index.{index_of}
use Rattle.image.specs.declared.Index.{Index}

-- an image that reads as contents, and their index
pub record ReadAs (b : List ℕ) (ix : Index) (c : Contents) : Type 0 where
  pub read : reading b ≡ found c
  pub indexed : ix ≡ index_of c

-- numbers of an index that the reader gave
pub record Fine (ix : Index) : Type 0 where
  pub identity : ValidIdentity ix.identity
  pub chains : ix.chains ≤ chains_limit
  pub measurements : ix.measurements ≤ measurements_limit

-- an image that the reader accepted, and the index that it gave
pub record Known (b : List ℕ) (ix : Index) : Type 0 where
  pub held : Contents
  pub same : ReadAs b ix held
