mod InOrder
mod InRange
mod Made
mod Numbers
mod Places
mod SeededFits
mod WorkedExample
