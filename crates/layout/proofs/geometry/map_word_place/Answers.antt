-- `layout::geometry::map_word_place` meets its contract: within the limits the place is among the image's words, by `place_of`.
use Rattle.std.proofs.Common.{◌≡◌, ◌*◌, ◌<◌, ◌≤◌, arith}
use Rattle.layout.specs.Shaped.{word_count}
use Rattle.layout.specs.Layout.{map_words, map_word_place, max_words}
use Rattle.layout.proofs.Place.{place_of}
use Rattle.layout.proofs.geometry.map_word_place.Goals as goal
use Rattle.layout.proofs.geometry.map_word_place.Goals.{After-map_words-w}

-- the place, with the words of a map as the code has them
placed : (c : After-map_words-w) → let a = c.args in
    (a.k * c.map_words-w.result ≡ a.k * map_words a.g) × (map_word_place a.g a.k a.j < word_count a.g) × (word_count a.g ≤ max_words)
placed c =
    place_of c.args.g c.args.k c.map_words-w.result c.args.j c.requires.limits c.map_words-w.ensures.0 c.requires.k_lt_m.0 c.requires.k_lt_m.1

pub overflow_mul-result : goal.overflow_mul-result
overflow_mul-result c = omega (arith, placed (goal.at.overflow_mul-result c).After-map_words-w)

pub overflow_add-result : goal.overflow_add-result
overflow_add-result c = omega (arith, placed (goal.at.overflow_add-result c).After-map_words-w)

pub overflow_add-result-2 : goal.overflow_add-result-2
overflow_add-result-2 c = omega (arith, placed (goal.at.overflow_add-result-2 c).After-map_words-w)

pub returns : goal.returns
returns c =
    let h = placed (goal.at.returns c).After-map_words-w in
    (omega arith, omega arith, h.2)
