-- `element::entries::entry_at` meets its contract: by how the value is framed.
use mathlib.Core.Path.{◌≡◌, sym, ap, ◌∙◌, subst}
use mathlib.Core.List.{List, []}
use Prim.Native.Nat.{ℕ}
use Rattle.std.proofs.Common.{Ok, Err}
use Rattle.element.specs.declared.framing.Frame.TheVariants.{Filters, Identifiers, Bare}
use Rattle.element.specs.Framing.{framed_of}
use Rattle.element.specs.Places.{unframed_place}
use Rattle.element.specs.Entries.{Located, located_of, located_at}
use Rattle.element.proofs.Frames.{Listed, listed, framed_says, filters_framed, filters_whole, filters_some, identifiers_framed}
use Rattle.element.proofs.Offsets.{placed_none, placed_filters, placed_identifiers, placed_bare}
use Rattle.element.proofs.entries.entry_at.Goals as goal

-- what is located among the entries of the value
at_entries : (s : List ℕ) (at : ℕ) (ps : List Located) → located_of s ≡ ps → located_at ps at ≡ located_at (located_of s) at
at_entries s at ps e = ap (λ (qs : List Located). located_at qs at) (sym e)

pub filter_at-requires : goal.filter_at-requires
filter_at-requires c =
    let s = c.args.value.now in
    let says = framed_says (framed_of s) (unframed_place s) (Ok (Filters c.in-Filters.field-0 c.in-Filters.n)) (rw c.in-Filters.is at c.in-Ok.ensures) in
    let framed = filters_framed s _ says.0 (subst (Listed s) says.1 (listed s)) says.2 in
    (filters_some s _ says.0 says.1, filters_whole s _ says.0 framed)

pub identifier_at-requires : goal.identifier_at-requires
identifier_at-requires c =
    let s = c.args.value.now in
    let says = framed_says (framed_of s) (unframed_place s) (Ok (Identifiers c.in-Identifiers.n)) (rw c.in-Identifiers.is at c.in-Ok.ensures) in
    (identifiers_framed s _ says.0 (subst (Listed s) says.1 (listed s)) says.2).few

pub returns-in-Filters : goal.returns-in-Filters
returns-in-Filters c =
    let s = c.args.value.now in
    let says = framed_says (framed_of s) (unframed_place s) (Ok (Filters c.in-Filters.field-0 c.in-Filters.n)) (rw c.in-Filters.is at c.in-Ok.ensures) in
    let framed = filters_framed s _ says.0 (subst (Listed s) says.1 (listed s)) says.2 in
    c.filter_at.ensures ∙ at_entries s c.args.at _ (placed_filters s _ _ says.0 says.1 framed)

pub returns-in-Identifiers : goal.returns-in-Identifiers
returns-in-Identifiers c =
    let s = c.args.value.now in
    let says = framed_says (framed_of s) (unframed_place s) (Ok (Identifiers c.in-Identifiers.n)) (rw c.in-Identifiers.is at c.in-Ok.ensures) in
    let framed = identifiers_framed s _ says.0 (subst (Listed s) says.1 (listed s)) says.2 in
    c.identifier_at.ensures ∙ at_entries s c.args.at _ (placed_identifiers s _ says.0 says.1 framed)

pub returns-in-Bare : goal.returns-in-Bare
unfolding located_at
returns-in-Bare c =
    let s = c.args.value.now in
    at_entries s c.args.at [] (placed_bare s _ (framed_says (framed_of s) (unframed_place s) (Ok (Bare c.in-Bare.field-0)) (rw c.in-Bare.is at c.in-Ok.ensures)))

pub returns-in_default : goal.returns-in_default
unfolding located_at
returns-in_default c =
    let s = c.args.value.now in
    at_entries s c.args.at [] (placed_none s (framed_says (framed_of s) (unframed_place s) (Err _) c.in_default.ensures).0)
