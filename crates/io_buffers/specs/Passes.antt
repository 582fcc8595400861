-- What contracts see of an exchange and of its two passes.
use Rattle.std.specs.Prelude.{◌≡◌, ℕ, List}
use Rattle.atomic_table.specs.Seated.{TableId}
use Rattle.io_buffers.specs.Given.{Given}
use Rattle.io_buffers.specs.Steps.{steps_in, published_in, takes_in}
use Rattle.io_buffers.specs.declared.views.Made.{Made}
use Rattle.io_buffers.specs.declared.shared.Exchange.{Exchange}
use Rattle.io_buffers.specs.declared.shared.ProducerPass.{ProducerPass}
use Rattle.io_buffers.specs.declared.shared.ConsumerPass.{ConsumerPass}
pub use Rattle.swap_core.specs.Runs.{publication}
pub use Rattle.io_buffers.specs.Steps.{publications, IsOfPublication, IsTake}

-- the words of a publication
abbrev pub width_of : Exchange → ℕ
width_of exchange = exchange.words

-- the steps that a side has made, the last one first
abbrev pub producer_steps : ProducerPass → List Made
producer_steps pass = steps_in pass.seat.me.0

abbrev pub consumer_steps : ConsumerPass → List Made
consumer_steps pass = steps_in pass.seat.me.0

-- what the producer has published, in order, from number 1
abbrev pub published_by : ProducerPass → List (List ℕ)
published_by pass = published_in (producer_steps pass)

-- what the consumer has taken, in order
abbrev pub taken_by : ConsumerPass → List Given
taken_by pass = takes_in (consumer_steps pass)

-- what tells an exchange from every other one
abbrev pub ExchangeId : Type 0
ExchangeId = TableId

-- what tells the exchange that this is, or that a pass belongs to
abbrev pub table_of : Exchange → ExchangeId
table_of exchange = exchange.table.shared.table_id

abbrev pub producer_table : ProducerPass → ExchangeId
producer_table pass = pass.seat.table_id

abbrev pub consumer_table : ConsumerPass → ExchangeId
consumer_table pass = pass.seat.table_id

-- a pass of this exchange
abbrev pub IsProducerOf : Exchange → ProducerPass → Type 0
IsProducerOf exchange pass = producer_table pass ≡ table_of exchange

abbrev pub IsConsumerOf : Exchange → ConsumerPass → Type 0
IsConsumerOf exchange pass = consumer_table pass ≡ table_of exchange

-- the pass of the same exchange as before
abbrev pub IsSameProducer : ProducerPass → ProducerPass → Type 0
IsSameProducer old new = producer_table new ≡ producer_table old

abbrev pub IsSameConsumer : ConsumerPass → ConsumerPass → Type 0
IsSameConsumer old new = consumer_table new ≡ consumer_table old
