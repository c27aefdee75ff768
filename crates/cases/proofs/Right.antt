-- The worked cases are right, computed row by row: document 01's table (specs/Table.antt), request 4's (Second.antt) and request 5's (Reserved.antt).
use mathlib.Core.Path.{refl}
use Rattle.search.specs.Search.{all, any, disjoint, distinct, from, keep, lowest_from, member, rising}
use Rattle.words.specs.Words.{digits, number}
use Rattle.bitset.specs.Bits.{bit_set, bits, in_set}
use Rattle.layout.specs.Format.{format_image, formats}
use Rattle.layout.specs.Layout.{after_head, edition_of, is_unit, known_as, map_words, added_bytes, spare_zero, tagged_at, agreeing, fitting, fresh, known, shape_bytes, shape_of, size_bytes, trailer_of, within_limits, max_reserved, reserved_at, words_of}
use Rattle.layout.specs.Trailer.{trailer_outcome}
use Rattle.image.specs.Free.{free_map, free_maps, free_unit, free_units}
use Rattle.image.specs.Soundness.{leading, units_of}
use Rattle.image.specs.Stored.{stored_size}
use Rattle.image.specs.Verdicts.{bad_link, bad_map, chunk_verdict, clash, contested, double_claim, first_claim, verdict, first_verdict, well_formed, size_fits, good_form}
use Rattle.access.specs.Ranges.{good_range, piece_of, pieces, split_in}
use Rattle.steps.specs.Steps.{decode_at, decode_fields, encode, encode_all, gather, steps_of}
use Rattle.rules.specs.Rules.{after_link, before_link, broken_rule, checked, collect, data_fits, ends_in, every, judged, link_in, linked_in, links_are, map_fits, map_in, once_each, piece_in, plan_map, rule1, rule2, rule3, rule4, rule5, unit_in, unit_of, word_in, word_in_range}
use Rattle.planner.specs.Planner.{data_steps, map_steps, plan_in, plan_of, unit_value, write_steps}
use Rattle.carry.specs.Carry.{carried, carry_all, carry_in}
use Rattle.durable.specs.Events.{after, fenced, holds, lands, settle, goes_ahead}
use Rattle.cases.specs.Table.{volume, done, table, AllRight}
use Rattle.cases.specs.Second.{second, table2, table1}
use Rattle.cases.specs.Reserved.{reserving, reserved3, reserved16}

pub cases-right : AllRight volume table
unfolding after_head edition_of is_unit known_as map_words added_bytes spare_zero tagged_at size_fits good_form word_in_range done all any disjoint distinct from keep lowest_from member rising digits number bit_set bits in_set format_image formats agreeing fitting fresh known shape_bytes shape_of size_bytes trailer_of within_limits max_reserved reserved_at words_of trailer_outcome free_map free_maps free_unit free_units leading units_of bad_link bad_map chunk_verdict clash contested double_claim first_claim verdict well_formed good_range piece_of pieces split_in decode_at decode_fields encode encode_all gather steps_of after_link before_link broken_rule checked collect data_fits ends_in every judged link_in linked_in links_are map_fits map_in once_each piece_in plan_map rule1 rule2 rule3 rule4 rule5 unit_in unit_of word_in data_steps map_steps plan_in unit_value plan_of write_steps carried carry_all carry_in after fenced holds lands settle goes_ahead
cases-right =
    ((refl, refl), ((refl, refl), ((refl, refl), ((refl, refl), (refl, ((refl, refl), (λ landed. (refl, refl), ((refl, refl), ((refl, refl), ((refl, refl), (refl, (refl, (refl, (refl, ((refl, refl, refl, refl), ((refl, refl, refl, refl), ((refl, refl), ((refl, refl, refl, refl), ((refl, refl), (refl, (refl, (refl, (refl, (refl, (refl, (refl, (refl, (refl, (refl, ((refl, refl), ((refl, refl, refl, refl), tt)))))))))))))))))))))))))))))))

pub second-right : AllRight second table2
unfolding after_head edition_of is_unit known_as map_words added_bytes spare_zero tagged_at size_fits good_form word_in_range done all any disjoint distinct from keep lowest_from member rising digits number bit_set bits in_set format_image formats agreeing fitting fresh known shape_bytes shape_of size_bytes trailer_of within_limits max_reserved reserved_at words_of trailer_outcome free_map free_maps free_unit free_units leading units_of stored_size bad_link bad_map chunk_verdict clash contested double_claim first_claim verdict first_verdict well_formed good_range piece_of pieces split_in decode_at decode_fields encode encode_all gather steps_of after_link before_link broken_rule checked collect data_fits ends_in every judged link_in linked_in links_are map_fits map_in once_each piece_in plan_map rule1 rule2 rule3 rule4 rule5 unit_in unit_of word_in data_steps map_steps plan_in unit_value plan_of write_steps carried carry_all carry_in after fenced holds lands settle goes_ahead
second-right =
    ((refl, refl), ((refl, refl), (refl, (refl, (refl, (refl, ((refl, refl, refl, refl), ((refl, refl, refl, refl), (refl, (refl, (refl, (refl, (refl, (refl, ((refl, refl), (λ landed. (refl, refl), (refl, (refl, (refl, (refl, (refl, (refl, (refl, (refl, ((refl, refl, refl, refl), ((refl, refl, refl, refl), ((refl, refl, refl, refl), ((refl, refl, refl, refl), ((refl, refl, refl, refl), (refl, (refl, tt)))))))))))))))))))))))))))))))

pub first-right : AllRight volume table1
unfolding after_head edition_of is_unit known_as map_words added_bytes spare_zero tagged_at size_fits good_form word_in_range done all any disjoint distinct from keep lowest_from member rising digits number bit_set bits in_set format_image formats agreeing fitting fresh known shape_bytes shape_of size_bytes trailer_of within_limits max_reserved reserved_at words_of trailer_outcome free_map free_maps free_unit free_units leading units_of stored_size bad_link bad_map chunk_verdict clash contested double_claim first_claim verdict first_verdict well_formed good_range piece_of pieces split_in decode_at decode_fields encode encode_all gather steps_of after_link before_link broken_rule checked collect data_fits ends_in every judged link_in linked_in links_are map_fits map_in once_each piece_in plan_map rule1 rule2 rule3 rule4 rule5 unit_in unit_of word_in data_steps map_steps plan_in unit_value plan_of write_steps carried carry_all carry_in after fenced holds lands settle goes_ahead
first-right =
    (refl, (refl, (refl, (refl, (refl, tt)))))

pub reserved-right : AllRight (reserving 3) reserved3 × AllRight (reserving 16) reserved16
unfolding after_head edition_of is_unit known_as map_words added_bytes spare_zero tagged_at size_fits good_form word_in_range done all any disjoint distinct from keep lowest_from member rising digits number bit_set bits in_set format_image formats agreeing fitting fresh known shape_bytes shape_of size_bytes trailer_of within_limits max_reserved reserved_at words_of trailer_outcome free_map free_maps free_unit free_units leading units_of stored_size bad_link bad_map chunk_verdict clash contested double_claim first_claim verdict first_verdict well_formed good_range piece_of pieces split_in decode_at decode_fields encode encode_all gather steps_of after_link before_link broken_rule checked collect data_fits ends_in every judged link_in linked_in links_are map_fits map_in once_each piece_in plan_map rule1 rule2 rule3 rule4 rule5 unit_in unit_of word_in data_steps map_steps plan_in unit_value plan_of write_steps carried carry_all carry_in after fenced holds lands settle goes_ahead
reserved-right =
    ((refl, ((refl, refl), ((refl, refl), ((refl, refl), (refl, (λ landed. (refl, refl), (refl, (refl, (refl, (refl, (refl, (refl, (refl, (refl, ((refl, refl, refl, refl), ((refl, refl, refl, refl), ((refl, refl, refl, refl), ((refl, refl, refl, refl), tt)))))))))))))))))), (refl, ((refl, refl), (refl, ((refl, refl, refl), ((refl, refl, refl), (refl, (refl, tt))))))))
