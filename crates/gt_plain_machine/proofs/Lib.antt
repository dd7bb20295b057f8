mod Ends
mod LivePins
