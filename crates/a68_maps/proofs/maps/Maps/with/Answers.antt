use Rattle.a68_maps.proofs.Forks.{made_map, with_is}
use Rattle.a68_maps.proofs.maps.Maps.with.Goals as goal

pub put-requires-clause-map : goal.put-requires-clause-map
put-requires-clause-map c = made_map c.self.inside.forks.items c.args.map (rw (← c.self.view_is) at c.requires)

pub returns : goal.returns
returns c =
    rw (← c.self.view_is) (with_is c.self.inside.forks.items c.put.new.forks.items c.args.map c.args.key c.args.value c.in_ok-made.made c.in_ok-made.ensures)
