use Rattle.rewriting.specs.Origins.{made_of, origins_of}
use Rattle.blocked_places.proofs.Under.{body_answered, made_leads}
use Rattle.blocked_places.proofs.bodies.in_scene.Goals as goal

pub in_made-requires : goal.in_made-requires
in_made-requires c = record {
  ground = c.requires.ground;
  typed = made_leads c.place_of_scene_is_typed.ensures c.args.ground.now.scene.now c.requires.made.0 c.args.it.now c.requires.typed c.requires.made.1;
  widths = c.requires.widths;
}

pub returns-clause-first : goal.returns-clause-first
returns-clause-first c =
    let it = c.args.it.now in
    body_answered (origins_of c.args.ground.now.scene.now) (made_of it) it.body c.in_ok-found.found c.part_of.result c.in_ok-found.ensures.first
    c.part_of.ensures
