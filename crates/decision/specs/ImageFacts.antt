-- The facts that the decisions need, of the image that the code holds.
use Rattle.image_lookup.specs.declared.Image.{Image}
use Rattle.rules.specs.Facts.{Facts, facts_at}

abbrev pub facts_in : Image → Facts
facts_in image = facts_at image.bytes.now image.index
