-- `layout::trailers::map_bytes` meets its contract: within the limits there are at most 4,896 map words, by `maps-of`.
use Rattle.layout.proofs.Limits.{limits, maps-of}
use Rattle.std.proofs.Common.{arith}
use Rattle.layout.proofs.trailers.map_bytes.Goals as goal

pub map_words-requires : goal.map_words-requires
map_words-requires c = limits c.args.g c.requires

pub overflow_mul-result : goal.overflow_mul-result
overflow_mul-result c =
    omega (arith, maps-of c.args.g c.map_words.result (limits c.args.g c.requires) c.map_words.ensures.0)

pub overflow_mul-result-2 : goal.overflow_mul-result-2
overflow_mul-result-2 c =
    omega (arith, maps-of c.args.g c.map_words.result (limits c.args.g c.requires) c.map_words.ensures.0)

pub returns : goal.returns
returns c =
    omega (arith, maps-of c.args.g c.map_words.result (limits c.args.g c.requires) c.map_words.ensures.0)
