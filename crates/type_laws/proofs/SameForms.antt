-- What is the same as a type of a form other than a natural's has that form.
use Rattle.std.proofs.Common.{◌≡◌, ℕ, refl}
use Rattle.chw_types.specs.declared.kind.Kind.{Kind}
use Rattle.chw_types.specs.declared.kind.Scalar.{Scalar}
use Rattle.chw_types.specs.TypeTree.{TypeTree, domain, scalar, vector, data_of, fun, signal, for_all, TypeTrees}
use Rattle.chw_types.specs.Polynomials.{is_natural}
use Rattle.chw_types.specs.SameTypes.{SameTypes, same_naturals, same_domain, same_scalar, same_vector, same_data, same_fun, same_signal, same_for_all, SameAll}

pub as_domain : {d : ℕ} {u : TypeTree} → SameTypes (domain d) u → u ≡ domain d
unfolding is_natural
as_domain (same_naturals n m p) = absurd (cc)
as_domain same_domain = refl

pub as_scalar : {s : Scalar} {w u : TypeTree} → SameTypes (scalar s w) u → (v : TypeTree) × (u ≡ scalar s v) × SameTypes w v
unfolding is_natural
as_scalar (same_naturals n m p) = absurd (cc)
as_scalar (same_scalar {w = v} h) = (v, refl, h)

pub as_vector : {n t u : TypeTree} → SameTypes (vector n t) u → (m : TypeTree) × (v : TypeTree) × (u ≡ vector m v) × SameTypes n m × SameTypes t v
unfolding is_natural
as_vector (same_naturals n m p) = absurd (cc)
as_vector (same_vector {m = m} {u = v} h g) = (m, v, refl, h, g)

pub as_data : {d : ℕ} {ts : TypeTrees} {u : TypeTree} → SameTypes (data_of d ts) u → (us : TypeTrees) × (u ≡ data_of d us) × SameAll ts us
unfolding is_natural
as_data (same_naturals n m p) = absurd (cc)
as_data (same_data {us = us} h) = (us, refl, h)

pub as_function : {a b u : TypeTree} → SameTypes (fun a b) u → (c : TypeTree) × (d : TypeTree) × (u ≡ fun c d) × SameTypes a c × SameTypes b d
unfolding is_natural
as_function (same_naturals n m p) = absurd (cc)
as_function (same_fun {c = c} {d = d} h g) = (c, d, refl, h, g)

pub as_signal : {d t u : TypeTree} → SameTypes (signal d t) u → (e : TypeTree) × (v : TypeTree) × (u ≡ signal e v) × SameTypes d e × SameTypes t v
unfolding is_natural
as_signal (same_naturals n m p) = absurd (cc)
as_signal (same_signal {e = e} {u = v} h g) = (e, v, refl, h, g)

pub as_bound : {k : Kind} {t u : TypeTree} → SameTypes (for_all k t) u → (v : TypeTree) × (u ≡ for_all k v) × SameTypes t v
unfolding is_natural
as_bound (same_naturals n m p) = absurd (cc)
as_bound (same_for_all {u = v} h) = (v, refl, h)
