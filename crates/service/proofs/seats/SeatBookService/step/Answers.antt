use Rattle.std.proofs.Common.{◌≡◌, ℕ, List, set, Some, None, Option, unwrap_or, sym}
use Rattle.std.specs.Option.{option_map}
use Rattle.std.proofs.lemmas.List.{set-get_or}
use Rattle.service.specs.declared.seats.Product.{Product}
use Rattle.service.specs.Seats.{no_product, product, product_at, done}
use Rattle.service.proofs.seats.SeatBookService.step.Goals as goal

-- where nothing is done, the book stays as it is
kept : {A : Type 0} (f : Product → A) (book : List Product) (i : ℕ) (o : Option Product) → None ≡ option_map f o → book ≡ set book i (unwrap_or o (product_at book i))
kept f book i None h = sym (set-get_or book i no_product)
kept f book i (Some p) h = cc

pub returns-in-None-clause-next : goal.returns-in-None-clause-next
returns-in-None-clause-next c =
    let book = c.args.self.now.products in
    let command = c.args.command.now in
    kept _ book (product command) (done book c.args.client command) c.in-None.ensures
