use Rattle.std.proofs.Common.{◌≡◌, ◌∙◌, ◌++◌, ap, subst, refl, arith, map, length}
use Rattle.std.proofs.lemmas.List.{length-map}
use Rattle.chw_terms.specs.TermMoves.{rename, exchanged}
use Rattle.moved_in_place.specs.Moves.{renamed_binding}
use Rattle.open_letrec.specs.declared.opened.OpenLetrec.TheInside.{Inside}
use Rattle.open_letrec.specs.Opened.{joined_one}
use Rattle.open_letrec.specs.Places.{IsGrown, number_of}
use Rattle.open_letrec.specs.Stored.{stored}
use Rattle.open_letrec.proofs.Joined.{one_joined_for}
use Rattle.open_letrec.proofs.Stored.{stored_for, many_left_kept, sound, view_is}
use Rattle.open_letrec.proofs.opened.OpenLetrec.join.Goals as goal

pub invariant_of-result : goal.invariant_of-result
invariant_of-result c =
    let o = c.self.inside in
    let v = c.args.self in
    let cs = c.args.cs.items in
    let new : Inside = record { settled = o.settled; waiting = c.append.new.self; body = o.body; places = c.store_all.new.places } in
    let f = stored_for o v c.self.invariant c.self.view_is in
    let own : c.len.result ≡ length v.left = omega (arith, c.len.ensures, o.waiting.ok.0, many_left_kept o v f) in
    let exchanged_cs = c.in_ok-exchange_all.ensures.cs ∙ ap (λ n. map (renamed_binding (exchanged (length cs) n)) cs) own in
    let exchanged_e = c.in_ok-exchange_all.ensures.e ∙ ap (λ n. rename c.args.e (exchanged (length cs) n)) own in
    let many : length c.exchange_all.new.cs.items ≡ length cs = ap length exchanged_cs ∙ length-map cs (renamed_binding (exchanged (length cs) (length v.left))) in
    let joins = one_joined_for o new v cs c.store_all.new.cs.items c.swap_last.new.group.items c.args.e c.store_all.new.e c.swap_last.new.term f c.requires c.in_ok-store_all.ensures.agrees (subst (IsGrown o.places new.places) many c.in_ok-store_all.ensures.more) refl refl (c.in_ok-append.ensures.items ∙ ap (λ xs. c.swap_last.new.group.items ++ xs) c.turn.ensures) (c.in_ok-store_all.ensures.cs ∙ ap (stored new.places) exchanged_cs) (c.in_ok-store_all.ensures.e ∙ ap (λ e. rename e (number_of new.places)) exchanged_e) c.swap_last.ensures in
    sound new (joined_one v cs c.args.e) joins

pub returns : goal.returns
returns c =
    let o = c.self.inside in
    let v = c.args.self in
    let cs = c.args.cs.items in
    let new : Inside = record { settled = o.settled; waiting = c.append.new.self; body = o.body; places = c.store_all.new.places } in
    let f = stored_for o v c.self.invariant c.self.view_is in
    let own : c.len.result ≡ length v.left = omega (arith, c.len.ensures, o.waiting.ok.0, many_left_kept o v f) in
    let exchanged_cs = c.in_ok-exchange_all.ensures.cs ∙ ap (λ n. map (renamed_binding (exchanged (length cs) n)) cs) own in
    let exchanged_e = c.in_ok-exchange_all.ensures.e ∙ ap (λ n. rename c.args.e (exchanged (length cs) n)) own in
    let many : length c.exchange_all.new.cs.items ≡ length cs = ap length exchanged_cs ∙ length-map cs (renamed_binding (exchanged (length cs) (length v.left))) in
    let joins = one_joined_for o new v cs c.store_all.new.cs.items c.swap_last.new.group.items c.args.e c.store_all.new.e c.swap_last.new.term f c.requires c.in_ok-store_all.ensures.agrees (subst (IsGrown o.places new.places) many c.in_ok-store_all.ensures.more) refl refl (c.in_ok-append.ensures.items ∙ ap (λ xs. c.swap_last.new.group.items ++ xs) c.turn.ensures) (c.in_ok-store_all.ensures.cs ∙ ap (stored new.places) exchanged_cs) (c.in_ok-store_all.ensures.e ∙ ap (λ e. rename e (number_of new.places)) exchanged_e) c.swap_last.ensures in
    view_is new (joined_one v cs c.args.e) joins
