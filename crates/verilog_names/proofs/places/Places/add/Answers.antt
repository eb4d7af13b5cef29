use Rattle.std.proofs.Common.{◌≡◌, ◌+◌, ◌≤◌, ◌^◌, [], ◌∷◌, ◌++◌, length, true, false, sym, ap, ◌∙◌, subst, arith}
use Rattle.std.specs.Option.{is_some}
use Rattle.std.proofs.lemmas.Map.Text.{btree_map_updates_str}
use Rattle.name_tables.specs.Places.{at}
use Rattle.verilog_names.specs.Firsts.{AreFirsts}
use Rattle.verilog_names.proofs.Firsts.{kept, noted}
use Rattle.verilog_names.proofs.places.Places.add.Goals as goal
use Rattle.verilog_names.proofs.places.Places.add.Goals.{then-not-contains_key+in_ok-insert, else-not-contains_key}

pub invariant_of-self-2 : goal.invariant_of-self-2
invariant_of-self-2 c =
    let old = c.self.inside.firsts in
    let names = c.self.inside.names.items in
    let inside = c.if-not-contains_key.self-inside in
    let few : length names + 1 ≤ 2 ^ 32 = omega (arith, c.in_ok-place.ensures.narrow) in
    elim c.if-not-contains_key.branch [
      | then-not-contains_key+in_ok-insert w ↦
          let are : c.push.new.self.items ≡ names ++ c.args.name ∷ [] =
          c.in_ok-push.ensures.items ∙ ap (λ s. s.names.items ++ c.args.name ∷ []) w.self-inside-is ∙ ap (λ ns. ns ++ c.args.name ∷ []) c.in_ok-reserve.ensures.items in
          let place : c.in_ok-place.place ≡ length names = omega (arith, c.in_ok-place.ensures.narrow) in
          let unknown : is_some (at old c.args.name.now) ≡ false = sym c.contains_key.ensures ∙ w.if-not-contains_key.true in
          let table : inside.firsts ≡ w.insert.new.self = ap (λ s. s.firsts) w.self-inside-is in
          subst (λ ns. AreFirsts inside.firsts ns) (sym are) (subst (λ t. AreFirsts t (names ++ c.args.name ∷ [])) (sym table)
          (noted old w.insert.new.self names c.args.name c.in_ok-place.place c.self.invariant few place unknown (btree_map_updates_str c.args.name.now old w.insert.new.self _ w.in_ok-insert.ensures.updates)))
      | else-not-contains_key w ↦
          let are : c.push.new.self.items ≡ names ++ c.args.name ∷ [] =
          c.in_ok-push.ensures.items ∙ ap (λ s. s.names.items ++ c.args.name ∷ []) w.self-inside-is ∙ ap (λ ns. ns ++ c.args.name ∷ []) c.in_ok-reserve.ensures.items in
          let known : is_some (at old c.args.name.now) ≡ true = sym c.contains_key.ensures ∙ w.if-not-contains_key.false in
          let table : inside.firsts ≡ old = ap (λ s. s.firsts) w.self-inside-is in
          subst (λ ns. AreFirsts inside.firsts ns) (sym are) (subst (λ t. AreFirsts t (names ++ c.args.name ∷ [])) (sym table)
          (kept old names c.args.name c.self.invariant few known))
    ]
