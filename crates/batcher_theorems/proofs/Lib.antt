mod Finals
mod Calling
