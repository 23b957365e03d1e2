use Rattle.std.specs.Prelude.{ℕ, cond, List, Some, None, Option, Ok, Err, Result, ◌==◌}
use Rattle.service.specs.declared.orders.Act.{Act}
use Rattle.service.specs.declared.orders.Act.TheVariants.{Take, Return, Buy}
use Rattle.service.specs.declared.orders.Order.{Order}
use Rattle.service.specs.declared.orders.UnknownAct.{UnknownAct}
use Rattle.service.specs.Seats.{take_act, return_act, buy_act, act, product, amount, well_formed}

-- The number of each act.
abbrev pub number_of : Act → ℕ
number_of Take = take_act
number_of Return = return_act
number_of Buy = buy_act

-- The act that has a number.
abbrev pub act_numbered : ℕ → Result Act UnknownAct
act_numbered n =
    cond (n == take_act) (Ok Take) (cond (n == return_act) (Ok Return) (cond (n == buy_act) (Ok Buy) (Err (record { 0 = n }))))

-- A command is an order if it is well formed and its act has a known number.
abbrev pub order_by : Result Act UnknownAct → List ℕ → Option Order
order_by (Ok a) command = Some (record { act = a; product = product command; amount = amount command })
order_by (Err e) command = None

abbrev pub order_of : List ℕ → Option Order
order_of command = cond (well_formed command) (order_by (act_numbered (act command)) command) None
