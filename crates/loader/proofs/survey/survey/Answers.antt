-- `loader::survey::survey` meets its contract: the pass works on the first words of the sets, and the others stay empty.
use Rattle.search.proofs.Mapping.{take_same}
use Rattle.bitset.specs.Bits.{words_for}
use Rattle.image.proofs.Surveyed.{survey-over}
use Rattle.image.specs.Loading.{unit_set_words, map_set_words}
use Rattle.layout.proofs.Limits.{units-high, maps-few}
use native.Mathlib.Omega.{arith}
use Rattle.loader.proofs.survey.survey.Goals as goal

pub survey_words-requires : goal.survey_words-requires
survey_words-requires c =
    let m = c.args.image.now in
    let units = c.requires.units_value.0 in
    let maps = c.requires.units_value.1 in record {
      units_value = (
        take_same _ (words_for m.shape.n) unit_set_words 0 _ units c.words_for-unit_words.ensures (omega (arith, units-high m.shape m.shaped.limits)),
        take_same _ (words_for m.shape.m) map_set_words 0 _ maps c.words_for-map_words.ensures (omega (arith, maps-few m.shape m.shaped.limits)),
      );
    }

pub returns : goal.returns
returns c =
    let m = c.args.image.now in
    survey-over m.bytes.now m.shape m.shaped _ _ c.words_for-unit_words.ensures c.words_for-map_words.ensures _ _ _ c.survey_words.ensures
    _ _ c.requires.units_value.0 c.requires.units_value.1
