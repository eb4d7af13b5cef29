use Rattle.std.proofs.Common.{◌∙◌, sym, subst}
use Rattle.std.proofs.lemmas.Bool.{false≢true}
use Rattle.rewriting.specs.Origins.{origins_of}
use Rattle.rewriting.specs.Spots.{spot_of}
use Rattle.normal_forms.specs.Blocked.{Size, sizes_in, IsOver}
use Rattle.blocked_places.specs.Firsts.{FindsFirstOf}
use Rattle.blocked_places.specs.Limits.{AreGiven, FindsTypes}
use Rattle.blocked_places.proofs.Results.{ok_more}
use Rattle.blocked_places.proofs.Turns.{no_size_counts, no_types_given, sizes_pass}
use Rattle.blocked_places.proofs.limits.size_limit.Goals as goal

pub returns-then-not-sizes_count : goal.returns-then-not-sizes_count
returns-then-not-sizes_count c =
    no_size_counts (origins_of c.args.scene.now) (spot_of c.args.place.now) c.args.which c.args.args.now
    (λ h. false≢true (sym c.if-not-sizes_count.true ∙ c.sizes_count.ensures.1 h))

pub returns-in_default : goal.returns-in_default
returns-in_default c =
    let p = c.args.which in
    let args = c.args.args.now in
    let none = subst (FindsTypes c.schema_of-schema.result.now args) c.in_default.is c.in_ok-types.ensures in
    no_types_given (origins_of c.args.scene.now) (spot_of c.args.place.now) p args
    (λ types g. none types (subst (λ t. AreGiven t args types) (sym c.schema_of-schema.ensures) g))

pub returns : goal.returns
returns c =
    let p = c.args.which in
    let args = c.args.args.now in
    let types = c.in-Some.types.items in
    let schema = c.schema_of-schema.ensures in
    let given =
    subst (λ t. AreGiven t args types) schema (subst (FindsTypes c.schema_of-schema.result.now args) c.in-Some.is c.in_ok-types.ensures) in
    ok_more c.first_size.result _ _
    (λ answer h. sizes_pass (origins_of c.args.scene.now) (spot_of c.args.place.now) p args types answer
    (c.sizes_count.ensures.0 c.if-not-sizes_count.false) given
    (subst (λ t. FindsFirstOf Size (IsOver types) (sizes_in t) answer) schema
    (subst (λ ts. FindsFirstOf Size (IsOver ts) (sizes_in c.schema_of-schema.result.now) answer) c.deref.ensures.value h)))
    c.first_size.ensures
