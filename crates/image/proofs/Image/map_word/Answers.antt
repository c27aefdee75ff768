-- `image::Image::map_word` meets its contract: the word stands within the image, and is the map's by `map_of-word`.
use mathlib.Core.Path.{◌∙◌}
use Rattle.image.proofs.MapWords.{map_of-word}
use Rattle.image.proofs.Image.map_word.Goals as goal

pub returns : goal.returns
returns c =
    let i = c.args.self.now in
    c.get_u64.ensures ∙ map_of-word i.bytes.now i.shape c.args.k c.args.j _ i.shaped c.requires.k_lt_m.1 c.map_word_place.ensures.0
