use Rattle.std.proofs.Common.{◌∷◌, map, not, sym, ap, ◌∙◌, Some}
use Rattle.std.specs.Prelude.{option_map}
use Rattle.std.proofs.lemmas.Option.{slice_get-get_or, slice_get-map}
use Rattle.net_rules.specs.PortsHold.{full_name}
use Rattle.net_rules.specs.declared.well_formed.ports.FullName.{FullName}
use Rattle.net_rules.proofs.Distinct.{new_name, seen_again}
use Rattle.net_rules.proofs.EachItem.{refused}
use Rattle.net_rules.proofs.FullNames.{known_is, names_after, names_of_keys}
use Rattle.net_rules.proofs.well_formed.ports.are_apart.Goals as goal

pub returns-then-not-branch : goal.returns-then-not-branch
returns-then-not-branch c =
    let l = c.loop-port in
    let ports = c.args.ports.now in
    let item = slice_get-get_or ports l.port-index _ c.loop-port-test.true ∙ ap Some (sym c.port-item.is) in
    let here = slice_get-map full_name ports l.port-index ∙ ap (option_map full_name) item ∙ ap (λ n. Some (c.port-item.result.dom.number ∷ n)) (sym c.as_slice.ensures) in
    let key : FullName = record { domain = c.port-item.result.dom.number; name = c.as_slice.result } in
    let told = c.in_ok-insert.ensures.added ∙ ap not (known_is l.known.keys key) in
    refused (seen_again (map full_name ports) (names_of_keys l.known.keys) l.port-index _ c.in_ok-insert.field-0 here l.invariant.known told c.if-not-branch.true)

pub loop-port-preserved : goal.loop-port-preserved
loop-port-preserved c =
    let l = c.loop-port in
    let ports = c.args.ports.now in
    let item = slice_get-get_or ports l.port-index _ c.loop-port-test.true ∙ ap Some (sym c.port-item.is) in
    let here = slice_get-map full_name ports l.port-index ∙ ap (option_map full_name) item ∙ ap (λ n. Some (c.port-item.result.dom.number ∷ n)) (sym c.as_slice.ensures) in
    let key : FullName = record { domain = c.port-item.result.dom.number; name = c.as_slice.result } in
    let told = c.in_ok-insert.ensures.added ∙ ap not (known_is l.known.keys key) in
    let after = ap names_of_keys c.in_ok-insert.ensures.keys ∙ names_after l.known.keys key in
    let next = new_name (map full_name ports) (names_of_keys l.known.keys) (names_of_keys c.insert.new.self.keys) l.port-index _ c.in_ok-insert.field-0 here l.invariant.known
    l.invariant.distinct told c.if-not-branch.false after in
    record { known = next.0; distinct = next.1 }
