-- `repair::faults::is_bad` meets its contract: a link that is not good is bad, by `bad-link`, and otherwise the map decides, by `bad-map`.
use Rattle.repair.proofs.Chunks.{bad-link, bad-map}
use mathlib.Core.Path.{sym, ◌∙◌}
use Rattle.repair.proofs.faults.is_bad.Goals as goal

pub good_map-requires : goal.good_map-requires
good_map-requires c = record {
  i_lt_c = (c.requires.i_lt_c, sym c.good_link.ensures ∙ c.if-good_link.true);
}

pub returns-then-good_link : goal.returns-then-good_link
returns-then-good_link c = bad-map _ _ _ _ c.good_link.ensures c.if-good_link.true c.good_map.ensures

pub returns : goal.returns
returns c = bad-link _ _ _ c.good_link.ensures c.if-good_link.false
