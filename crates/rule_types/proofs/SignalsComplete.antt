-- What rules make of functions on signals is complete.
use Rattle.std.proofs.Common.{◌∷◌, List, [], length, suc, zero, ℕ}
use Rattle.chw_types.specs.TypeMoves.{raised}
use Rattle.chw_types.specs.TypeTree.{TypeTree}
use Rattle.chw_types.specs.declared.declarations.Data.{Data}
use Rattle.chw_terms.specs.TermMoves.{shift}
use Rattle.chw_terms.specs.TermTree.{TermTree}
use Rattle.chw_terms.specs.declared.rule.Rule.{Rule}
use Rattle.chw_typing.specs.Programs.{IsComplete}
use Rattle.rewriting.specs.Origins.{Origins, eta_expanded, on_variables, under_each}
use Rattle.rewriting.specs.Spots.{Spot}
use Rattle.rewriting.specs.Lifted.{Joins, ap_ap, ap_fmap, ap_pure, ap_value, fmap_ap, fmap_fmap, fmap_pure}
use Rattle.rewriting.specs.Signals.{OfSignals, eta, join, spec_function}
use Rattle.rule_types.proofs.Complete.{renamed_complete}

joins_complete : {o : Origins} {at : Spot} {e e' : TermTree} (datas : List Data) → Joins o at e e' → IsComplete datas e → IsComplete datas e'
joins_complete datas ap_pure h = ((tt, h.0.1.1), h.1)
joins_complete datas fmap_pure h = (tt, (h.0.1, h.1.1))
joins_complete datas (fmap_fmap {f = f} {g = g} fused found) h =
    ((tt, (renamed_complete datas f (raised 0 1) h.0.1, (renamed_complete datas g (raised 0 1) h.1.0.1, tt))), h.1.1)
joins_complete datas (fmap_ap {f = f} fused found) h = ((tt, ((tt, (renamed_complete datas f (raised 0 2) h.0.1, (tt, tt))), h.1.0.1)), h.1.1)
joins_complete datas (ap_value {v = v} bare fused found) h = ((tt, (tt, renamed_complete datas v (raised 0 1) h.1.1)), h.0.1)
joins_complete datas (ap_fmap {g = g} bare fused found found_g) h = ((tt, ((tt, (tt, (renamed_complete datas g (raised 0 2) h.1.0.1, tt))), h.0.1)), h.1.1)
joins_complete datas (ap_ap bare fused found found_v) h = ((tt, ((tt, ((tt, (tt, (tt, tt))), h.0.1)), h.1.0.1)), h.1.1)

variables_complete : (datas : List Data) (e : TermTree) (j n : ℕ) → IsComplete datas e → IsComplete datas (on_variables e j n)
variables_complete datas e j zero h = h
variables_complete datas e j (suc n) h = (variables_complete datas e (suc j) n h, tt)

pub under_each_complete : (datas : List Data) (args : List TypeTree) (e : TermTree) → IsComplete datas e → IsComplete datas (under_each args e)
under_each_complete datas [] e h = h
under_each_complete datas (a ∷ args) e h = under_each_complete datas args e h

pub eta_complete : (datas : List Data) (args : List TypeTree) (e : TermTree) → IsComplete datas e → IsComplete datas (eta_expanded args e)
eta_complete datas args e h =
    let moved = shift e 0 (length args) in
    under_each_complete datas args (on_variables moved 0 (length args)) (variables_complete datas moved 0 (length args) (renamed_complete datas e (raised 0 (length args)) h))

pub signals_keep_complete : (o : Origins) (at : Spot) {r : Rule} {e e' : TermTree} → OfSignals o at r e e' → IsComplete o.program.datas e → IsComplete o.program.datas e'
signals_keep_complete o at (join circuit joins) h = joins_complete o.program.datas joins h
signals_keep_complete o at (eta {t = t} {ts = ts} {g = g} circuit lifted few) h = ((tt, eta_complete o.program.datas (t ∷ ts) g h.0.1), h.1)
signals_keep_complete o at (spec_function circuit lifted many number) h = ((tt, tt), h.1)
