-- Sample elements that concern the reader, and some limits: a single list under a single claim, computed. Then what is handed out step by step, and what calls
-- are answered with by which an element arrives split.
use mathlib.Core.Path.{◌≡◌, refl}
use mathlib.Core.List.{List, [], ◌∷◌, ◌++◌}
use Prim.Native.Nat.{ℕ, zero, suc, ◌+◌, ◌*◌}
use lib.ListN.{replicate}
use Rattle.laws.specs.Numbers.{same_under}
use Rattle.laws.specs.Index.{pad}
use Rattle.laws.specs.Octets.{be_from, be_bytes}
use Rattle.laws.specs.Lists.{every, is_in, repeats}
use Rattle.filter.specs.Build.{protocol, bare, excluded, added, built}
use Rattle.filter.specs.Coding.{held, well_coded, empty_place}
use Rattle.filter.specs.Fit.{valid_header, agrees_transport, agrees_network, fits}
use Rattle.filter.specs.Fittable.{sample, fittable}
use Rattle.element.specs.declared.answer.Cause.TheVariants.{Operation}
use Rattle.element.specs.declared.entries.Handed.{Handed}
use Rattle.element.specs.declared.entries.Handed.TheVariants.{Filter, Identifier, Refused, End}
use Rattle.element.specs.declared.portions.Portions.{Portions}
use Rattle.element.specs.Head.{longest}
use Rattle.element.specs.Numbers.{number_of, placed_number}
use Rattle.element.specs.Portions.{sound, takes, announce_of, feed_of, finish_of, PortionCall, announce, feed, finish, after, number_at}
use Rattle.element.specs.Entries.{located_filters, located_identifiers, located_of, first_offset, located_at, look_at, after_at}
use Rattle.element.specs.Places.{unframed_place, earliest, repeats_one, filters_place, place_of}
use Rattle.element.specs.Read.{no_filters, no_marks, entries_of, twice, in_places, marked, read_value, unplaced, read_element}
use Rattle.element.specs.Contents.{length_of, component_of, contents_from, contents_of, coded_of}
use Rattle.element.specs.Framing.{split_of, parameters, rest_fits, framed_by, framed_of}
use Rattle.element.specs.Write.{contents_octets, entry_octets, entries_from, entries_octets, marks_from, octets_of, row_given, marks_given, given}

abbrev reads : List ℕ → ℕ
reads xs = number_of (read_element xs).answer

-- the octets that the writer makes of what was read
abbrev again : List ℕ → List ℕ
again xs = octets_of (read_element xs)

examples : (
    reads (0x21 ∷ 0x31 ∷ 0x0A ∷ 0x05 ∷ 0x30 ∷ 0x11 ∷ 0x50 ∷ 0x13 ∷ 0xC4 ∷ [])
    ∷ reads (0x21 ∷ 0x31 ∷ 0x0A ∷ 0x05 ∷ 0x30 ∷ 0x11 ∷ 0x50 ∷ 0x13 ∷ [])
    ∷ reads (0x20 ∷ [])
    ∷ reads (0xC0 ∷ [])
    ∷ reads (0x40 ∷ [])
    ∷ reads (0x41 ∷ 0x01 ∷ [])
    ∷ reads (0xA1 ∷ 0x01 ∷ [])
    ∷ reads (0x21 ∷ 0x31 ∷ 0x0A ∷ 0x05 ∷ 0x30 ∷ 0x01 ∷ 0x50 ∷ 0x13 ∷ 0xC4 ∷ [])
    ∷ reads (0x21 ∷ 0x31 ∷ 0x0A ∷ 0x05 ∷ 0x41 ∷ 0x00 ∷ 0x02 ∷ 0x00 ∷ 0x01 ∷ [])
    ∷ reads (0x21 ∷ 0x31 ∷ 0x0A ∷ 0x02 ∷ 0x31 ∷ 0x11 ∷ [])
    -- no octets, operations 0 and 7, 256 octets
    ∷ reads []
    ∷ reads (0x00 ∷ [])
    ∷ reads (0xE0 ∷ [])
    ∷ reads (0xD0 ∷ replicate 255 0)
    -- parameters: of length 0, none, without a length octet, past the end
    ∷ reads (0xD0 ∷ 0x07 ∷ 0x00 ∷ [])
    ∷ reads (0xD0 ∷ [])
    ∷ reads (0xD0 ∷ 0x07 ∷ [])
    ∷ reads (0xD0 ∷ 0x07 ∷ 0x02 ∷ 0x00 ∷ [])
    -- empty contents, a component cut short, a type twice, a forbidden pair
    ∷ reads (0x21 ∷ 0x31 ∷ 0x0A ∷ 0x00 ∷ [])
    ∷ reads (0x21 ∷ 0x31 ∷ 0x0A ∷ 0x02 ∷ 0x50 ∷ 0x13 ∷ [])
    ∷ reads (0x21 ∷ 0x31 ∷ 0x0A ∷ 0x04 ∷ 0x30 ∷ 0x11 ∷ 0x30 ∷ 0x11 ∷ [])
    ∷ reads (0x21 ∷ 0x31 ∷ 0x0A ∷ 0x08 ∷ 0x50 ∷ 0x13 ∷ 0xC4 ∷ 0x51 ∷ 0x00 ∷ 0x01 ∷ 0x00 ∷ 0x02 ∷ [])
    -- a second filter with the identifier, or the precedence, of the first; coding is judged before fit, and fit before repeats
    ∷ reads (0x62 ∷ 0x31 ∷ 0x0A ∷ 0x02 ∷ 0x30 ∷ 0x11 ∷ 0x31 ∷ 0x0B ∷ 0x02 ∷ 0x30 ∷ 0x11 ∷ [])
    ∷ reads (0x82 ∷ 0x31 ∷ 0x0A ∷ 0x02 ∷ 0x30 ∷ 0x11 ∷ 0x32 ∷ 0x0A ∷ 0x02 ∷ 0x30 ∷ 0x11 ∷ [])
    ∷ reads (0x62 ∷ 0x31 ∷ 0x0A ∷ 0x05 ∷ 0x41 ∷ 0x00 ∷ 0x02 ∷ 0x00 ∷ 0x01 ∷ 0x31 ∷ 0x0B ∷ 0x00 ∷ [])
    ∷ reads (0x62 ∷ 0x31 ∷ 0x0A ∷ 0x05 ∷ 0x41 ∷ 0x00 ∷ 0x02 ∷ 0x00 ∷ 0x01 ∷ 0x31 ∷ 0x0B ∷ 0x02 ∷ 0x30 ∷ 0x11 ∷ [])
    ∷ [])
    ++ again (0x21 ∷ 0x31 ∷ 0x0A ∷ 0x05 ∷ 0x50 ∷ 0x13 ∷ 0xC4 ∷ 0x30 ∷ 0x11 ∷ [])
    ++ again (0xA3 ∷ 0xF5 ∷ 0x01 ∷ 0x05 ∷ [])
    ++ again (0x61 ∷ 0x1F ∷ 0x00 ∷ 0x04 ∷ 0x80 ∷ 0xF1 ∷ 0x02 ∷ 0x03 ∷ [])
    ≡ (0 ∷ 42 ∷ 42 ∷ 0 ∷ 0 ∷ 42 ∷ 0 ∷ 44 ∷ 44 ∷ 45 ∷ [])
    ++ (42 ∷ 42 ∷ 42 ∷ 42 ∷ [])
    ++ (0 ∷ 42 ∷ 42 ∷ 42 ∷ [])
    ++ (45 ∷ 45 ∷ 45 ∷ 45 ∷ [])
    ++ (45 ∷ 45 ∷ 45 ∷ 44 ∷ [])
    ++ (0x21 ∷ 0x31 ∷ 0x0A ∷ 0x05 ∷ 0x30 ∷ 0x11 ∷ 0x50 ∷ 0x13 ∷ 0xC4 ∷ [])
    ++ (0xA2 ∷ 0x01 ∷ 0x05 ∷ [])
    ++ (0x61 ∷ 0x1F ∷ 0x00 ∷ 0x04 ∷ 0x80 ∷ 0x01 ∷ 0x02 ∷ 0x03 ∷ [])
unfolding same_under be_from be_bytes every is_in repeats excluded added built held well_coded empty_place valid_header agrees_transport agrees_network fits sample fittable no_filters no_marks length_of component_of contents_from contents_of split_of parameters rest_fits framed_by framed_of coded_of entries_of twice in_places marked read_value unframed_place earliest repeats_one filters_place place_of unplaced read_element contents_octets entry_octets entries_from entries_octets marks_from octets_of row_given marks_given given
examples = refl

-- ---- Causes and their places, each as 256 times the cause and the place
abbrev breaks : List ℕ → ℕ
breaks xs = placed_number (read_element xs).answer

abbrev at : ℕ → ℕ → ℕ
at cause place = cause * 256 + place

abbrev pub Places : Type 0
Places =
    (
    -- no octets; 256 of them; operations 0 and 7; a count of 0, and above 0, also where octets are left over or an entry is past the end
    breaks []
    ∷ breaks (0xC0 ∷ replicate 255 0)
    ∷ breaks (0x01 ∷ 0x01 ∷ [])
    ∷ breaks (0xE0 ∷ [])
    ∷ breaks (0x20 ∷ 0x01 ∷ [])
    ∷ breaks (0x41 ∷ [])
    -- a filter without its last octet, and without its length; the second of two filters missing; two identifiers, one there
    ∷ breaks (0x21 ∷ 0x31 ∷ 0x0A ∷ 0x05 ∷ 0x30 ∷ 0x11 ∷ 0x50 ∷ 0x13 ∷ [])
    ∷ breaks (0x21 ∷ 0x31 ∷ 0x0A ∷ [])
    ∷ breaks (0x62 ∷ 0x31 ∷ 0x0A ∷ 0x02 ∷ 0x30 ∷ 0x11 ∷ [])
    ∷ breaks (0xA2 ∷ 0x01 ∷ [])
    -- with E: no parameter, one without a length, one past the end, the second past the end
    ∷ breaks (0xD0 ∷ [])
    ∷ breaks (0xD0 ∷ 0x07 ∷ [])
    ∷ breaks (0xD0 ∷ 0x07 ∷ 0x02 ∷ 0x00 ∷ [])
    ∷ breaks (0xB1 ∷ 0x01 ∷ 0x07 ∷ 0x00 ∷ 0x07 ∷ 0x01 ∷ [])
    -- octets left over: after a filter, after identifiers, after no list
    ∷ breaks (0x21 ∷ 0x31 ∷ 0x0A ∷ 0x02 ∷ 0x30 ∷ 0x11 ∷ 0x00 ∷ 0x00 ∷ [])
    ∷ breaks (0xA2 ∷ 0x01 ∷ 0x02 ∷ 0x03 ∷ [])
    ∷ breaks (0xC0 ∷ 0x00 ∷ [])
    ∷ [])
    ++ (
    -- the first filter badly coded; the second, the first not fitting; the second and the third
    breaks (0x21 ∷ 0x31 ∷ 0x0A ∷ 0x02 ∷ 0x31 ∷ 0x11 ∷ [])
    ∷ breaks (0x62 ∷ 0x31 ∷ 0x0A ∷ 0x05 ∷ 0x41 ∷ 0x00 ∷ 0x02 ∷ 0x00 ∷ 0x01 ∷ 0x32 ∷ 0x0B ∷ 0x00 ∷ [])
    ∷ breaks (0x23 ∷ 0x31 ∷ 0x0A ∷ 0x02 ∷ 0x30 ∷ 0x11 ∷ 0x32 ∷ 0x0B ∷ 0x00 ∷ 0x33 ∷ 0x0C ∷ 0x00 ∷ [])
    -- the first fits nothing; the second and the third, which repeats the first too
    ∷ breaks (0x21 ∷ 0x31 ∷ 0x0A ∷ 0x05 ∷ 0x30 ∷ 0x01 ∷ 0x50 ∷ 0x13 ∷ 0xC4 ∷ [])
    ∷ breaks (0x23 ∷ 0x31 ∷ 0x0A ∷ 0x02 ∷ 0x30 ∷ 0x11 ∷ 0x32 ∷ 0x0B ∷ 0x05 ∷ 0x41 ∷ 0x00 ∷ 0x02 ∷ 0x00 ∷ 0x01 ∷ 0x31 ∷ 0x0A ∷ 0x05 ∷ 0x41 ∷ 0x00 ∷ 0x02 ∷ 0x00 ∷ 0x01 ∷ [])
    -- the second has the identifier of the first; the third has the precedence of the first, and the fourth the identifier of the second
    ∷ breaks (0x62 ∷ 0x31 ∷ 0x0A ∷ 0x02 ∷ 0x30 ∷ 0x11 ∷ 0x31 ∷ 0x0B ∷ 0x02 ∷ 0x30 ∷ 0x11 ∷ [])
    ∷ breaks (0x84 ∷ 0x31 ∷ 0x0A ∷ 0x02 ∷ 0x30 ∷ 0x11 ∷ 0x32 ∷ 0x0B ∷ 0x02 ∷ 0x30 ∷ 0x11 ∷ 0x33 ∷ 0x0A ∷ 0x02 ∷ 0x30 ∷ 0x11 ∷ 0x32 ∷ 0x0C ∷ 0x02 ∷ 0x30 ∷ 0x11 ∷ [])
    -- nothing is wrong
    ∷ breaks (0x21 ∷ 0x31 ∷ 0x0A ∷ 0x02 ∷ 0x30 ∷ 0x11 ∷ [])
    ∷ breaks (0xC0 ∷ [])
    ∷ [])
    ≡ (at 42 0 ∷ at 42 0 ∷ at 42 0 ∷ at 42 0 ∷ at 42 0 ∷ at 42 0 ∷ [])
    ++ (at 42 8 ∷ at 42 3 ∷ at 42 6 ∷ at 42 2 ∷ [])
    ++ (at 42 1 ∷ at 42 2 ∷ at 42 4 ∷ at 42 6 ∷ [])
    ++ (at 42 6 ∷ at 42 3 ∷ at 42 1 ∷ [])
    ++ (at 45 1 ∷ at 45 9 ∷ at 45 6 ∷ [])
    ++ (at 44 1 ∷ at 44 6 ∷ [])
    ++ (at 45 6 ∷ at 45 11 ∷ [])
    ++ (0 ∷ 0 ∷ [])

pub places : Places
unfolding same_under be_from every is_in repeats excluded added valid_header agrees_transport agrees_network fits sample fittable no_filters no_marks length_of component_of contents_from contents_of split_of parameters rest_fits framed_by framed_of coded_of entries_of twice in_places marked read_value unframed_place earliest repeats_one filters_place place_of unplaced read_element
places = refl

-- the first n steps
steps_from : ℕ → List ℕ → ℕ → List Handed
steps_from zero xs at = []
steps_from (suc n) xs at = look_at xs at ∷ steps_from n xs (after_at xs at)

abbrev steps : ℕ → List ℕ → List Handed
steps n xs = steps_from n xs (first_offset xs)

-- identifiers, one of them twice, and after them a parameter; no list; a cause, again and again; filters in byte order
handed_out_lem : steps 5 (0xB3 ∷ 0xF5 ∷ 0x01 ∷ 0x05 ∷ 0x07 ∷ 0x00 ∷ [])
    ++ steps 1 (0xC0 ∷ [])
    ++ steps 2 (0xA2 ∷ 0x01 ∷ [])
    ++ steps 3 (0x22 ∷ 0x35 ∷ 0x0A ∷ 0x02 ∷ 0x30 ∷ 0x11 ∷ 0x11 ∷ 0x0B ∷ 0x02 ∷ 0x30 ∷ 0x06 ∷ [])
    ≡ (Identifier 5 ∷ Identifier 1 ∷ Identifier 5 ∷ End ∷ End ∷ [])
    ++ (End ∷ [])
    ++ (Refused (record { cause = Operation; place = 2 }) ∷ Refused (record { cause = Operation; place = 2 }) ∷ [])
    ++ (Filter 5 (added (bare 10 3) (protocol 17)) ∷ Filter 1 (added (bare 11 1) (protocol 6)) ∷ End ∷ [])
unfolding steps_from located_filters located_identifiers located_of first_offset located_at look_at after_at same_under be_from every is_in repeats excluded added valid_header agrees_transport agrees_network fits sample fittable no_filters no_marks length_of component_of contents_from contents_of split_of parameters rest_fits framed_by framed_of coded_of entries_of twice in_places marked read_value unframed_place earliest repeats_one filters_place place_of unplaced read_element
handed_out_lem = refl

-- what is looked at from an offset on, octet by octet
looks_from : ℕ → List ℕ → ℕ → List Handed
looks_from zero xs at = []
looks_from (suc n) xs at = look_at xs at ∷ looks_from n xs (suc at)

-- two filters of five octets each, three identifiers and a parameter, a cause: inside an entry, past the list and at octet 1 there is the end
at_offsets : looks_from 12 (0x22 ∷ 0x35 ∷ 0x0A ∷ 0x02 ∷ 0x30 ∷ 0x11 ∷ 0x11 ∷ 0x0B ∷ 0x02 ∷ 0x30 ∷ 0x06 ∷ []) 0
    ++ looks_from 6 (0xB3 ∷ 0xF5 ∷ 0x01 ∷ 0x05 ∷ 0x07 ∷ 0x00 ∷ []) 0
    ++ looks_from 2 (0xA2 ∷ 0x01 ∷ []) 0
    ≡ (End ∷ Filter 5 (added (bare 10 3) (protocol 17)) ∷ End ∷ End ∷ End ∷ End ∷ Filter 1 (added (bare 11 1) (protocol 6)) ∷ End ∷ End ∷ End ∷ End ∷ End ∷ [])
    ++ (End ∷ Identifier 5 ∷ Identifier 1 ∷ Identifier 5 ∷ End ∷ End ∷ [])
    ++ (Refused (record { cause = Operation; place = 2 }) ∷ End ∷ [])
unfolding looks_from located_filters located_identifiers located_of located_at look_at same_under be_from every is_in repeats excluded added valid_header agrees_transport agrees_network fits sample fittable no_filters no_marks length_of component_of contents_from contents_of split_of parameters rest_fits framed_by framed_of coded_of entries_of twice in_places marked read_value unframed_place earliest repeats_one filters_place place_of unplaced read_element
at_offsets = refl

-- ---- an element in portions: what a sequence of calls is answered with, each on the state that those before it left
abbrev answers : Portions → List PortionCall → List ℕ
answers p [] = []
answers p (c ∷ cs) = number_at p c ∷ answers (after p c) cs

-- nothing announced; nine octets in three portions, one of them empty, with a portion of one octet too many, an early finish, an octet past the end, and
-- nothing more fed at the end; elements of causes 44 and 45; 255 octets announced and fed, and 256
portions_answered : (
    answers (announce_of 0).state
    (finish
    ∷ announce 9
    ∷ feed (0x21 ∷ 0x31 ∷ [])
    ∷ feed []
    ∷ feed (0x0A ∷ 0x05 ∷ 0x30 ∷ 0x11 ∷ 0x50 ∷ 0x13 ∷ 0xC4 ∷ 0x00 ∷ [])
    ∷ finish
    ∷ feed (0x0A ∷ 0x05 ∷ 0x30 ∷ 0x11 ∷ 0x50 ∷ 0x13 ∷ 0xC4 ∷ [])
    ∷ feed (0x00 ∷ [])
    ∷ feed []
    ∷ finish
    ∷ announce 9
    ∷ feed (0x21 ∷ 0x31 ∷ 0x0A ∷ 0x05 ∷ 0x30 ∷ [])
    ∷ feed (0x01 ∷ 0x50 ∷ 0x13 ∷ 0xC4 ∷ [])
    ∷ finish
    ∷ announce 6
    ∷ feed (0x21 ∷ 0x31 ∷ 0x0A ∷ 0x02 ∷ 0x31 ∷ 0x11 ∷ [])
    ∷ finish
    ∷ announce 255
    ∷ finish
    ∷ feed (0xD0 ∷ replicate 254 0)
    ∷ feed (0x00 ∷ [])
    ∷ finish
    ∷ announce 256
    ∷ feed (0x00 ∷ [])
    ∷ finish
    ∷ [])
    )
    ≡ (42 ∷ 0 ∷ 0 ∷ 0 ∷ 13 ∷ 14 ∷ 0 ∷ 13 ∷ 0 ∷ 0 ∷ 0 ∷ 0 ∷ 0 ∷ 44 ∷ 0 ∷ 0 ∷ 45 ∷ 0 ∷ 14 ∷ 0 ∷ 13 ∷ 0 ∷ 42 ∷ 13 ∷ 42 ∷ [])
unfolding sound takes announce_of feed_of finish_of pad same_under be_from every is_in repeats excluded added valid_header agrees_transport agrees_network fits sample fittable no_filters no_marks length_of component_of contents_from contents_of split_of parameters rest_fits framed_by framed_of coded_of entries_of twice in_places marked read_value unframed_place earliest repeats_one filters_place place_of unplaced read_element
portions_answered = refl

-- states that no calls give: more fed than announced, an octet past what was fed
abbrev odd : ℕ → ℕ → List ℕ → Portions
odd announced fed xs = record { announced = announced; fed = fed; octets = pad longest xs }

odd_answered : (answers (odd 1 2 (0x21 ∷ 0x31 ∷ [])) (feed [] ∷ finish ∷ []) ++ answers (odd 3 2 (0x21 ∷ 0x31 ∷ 0x0A ∷ [])) (feed [] ∷ finish ∷ []))
    ≡ (13 ∷ 13 ∷ 13 ∷ 13 ∷ [])
unfolding sound takes feed_of finish_of pad every
odd_answered = refl
