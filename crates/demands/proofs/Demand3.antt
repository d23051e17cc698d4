-- Demand 3 holds of our rig and desk.
-- Assumes nothing.
use Rattle.demands.specs.Outfit.{proved}
use Rattle.demands.specs.Demand3.{Demand3For}
use Rattle.demands.proofs.AtOnce.{at_once}
use Rattle.demands.proofs.Queue.{queued}

pub demand_3 : Demand3For proved
demand_3 = queued proved at_once
