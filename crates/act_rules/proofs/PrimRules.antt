-- What the rules on primitives make of a term acts as the term.
use Rattle.rewriting.specs.Primitives.{unroll, elem, elem_at, delta}
use Rattle.act_rules.specs.NameLaws.{ElementActs, ElementAtActs}
use Rattle.act_rules.specs.PrimLaws.{ComputedActs, PrimitivesAct, UnrolledActs}

pub primitives_act : UnrolledActs → ElementActs → ElementAtActs → ComputedActs → PrimitivesAct
primitives_act unrolls takes takes_at computes o at r _ _ (unroll {p = p} {types = types} {es = es} {e = e} can unnamed is) = unrolls p types es e can is
primitives_act unrolls takes takes_at computes o at r _ _ (elem {p = p} {i = i} {n = n} {a = a} {t = t} {es = es} {j = j} {e = e} which number least found) = takes p i n a t es j e which number least found
primitives_act unrolls takes takes_at computes o at r _ _ (elem_at {n = n} {k = k} {a = a} {t = t} {es = es} {bits = bits} {m = m} {e = e} constant number least found) = takes_at n k a t es bits m e number least found
primitives_act unrolls takes takes_at computes o at r _ _ (delta {p = p} {types = types} {words = words} {b = b} constant value) = computes p types words b value
