-- The orders that are asked for at once.
use Rattle.std.specs.Prelude.{List, [], ◌∷◌, flat_map}
use Rattle.enet_submit.specs.declared.order.Order.{Order}
use Rattle.enet_submit.specs.declared.order.Request.{Request}
use Rattle.enet_submit.specs.declared.order.Request.TheVariants.{One, Each}

-- an order is itself, packets for several peers are the orders to submit them
abbrev pub orders_of : Request → List Order
orders_of (One order) = order ∷ []
orders_of (Each orders) = orders

abbrev pub all_orders_of : List Request → List Order
all_orders_of requests = flat_map orders_of requests
